-- The laws by which callers go on from one equation to the next.
use Rattle.std.specs.Prelude.{◌≡◌, ℕ, ◌≤◌, Bool, true, List, [], ◌++◌, length}
use Rattle.terms.specs.declared.Cell.{Cell}
use Rattle.graphs.specs.declared.Pair.{Pair}
use Rattle.graphs.specs.Terms.{Term, Terms}
use Rattle.graphs.specs.Graph.{Acyclic}
use Rattle.graphs.specs.Links.{up_of, roots, weight, Logged}
use Rattle.graphs.specs.Meaning.{arena, decode, Going, Live, AllLive}
use Rattle.graphs.specs.Cells.{graph, node_at, all_fit, owes}
use Rattle.graphs.specs.Flat.{Stands, flats}
use Rattle.graphs.specs.Whole.{Whole}

-- a term that stands in the cells is its node's term
abbrev pub Decoding : Type 0
Decoding = (cs : List Cell) → length cs ≤ 1568 → (p : ℕ) (t : Term) → Stands cs p t → decode arena (graph cs) (node_at cs p) ≡ t

-- cells appended to whole terms leave a solved system as it is
abbrev pub Growing : Type 0
Growing = (kind : ℕ → ℕ → ℕ) (cs more : List Cell) (l : List ℕ) (E : List Pair) (flag : Bool) → length (cs ++ more) ≤ 1568 → Whole cs
    → Going kind (graph cs) E flag (up_of l) [] → Going kind (graph (cs ++ more)) E flag (up_of l) []

-- equations are added to a solved system
abbrev pub Adding : Type 0
Adding = (kind : ℕ → ℕ → ℕ) (cs : List Cell) (l : List ℕ) (E F : List Pair) (flag : Bool) → Going kind (graph cs) E flag (up_of l) [] → Going kind (graph cs) (E ++ F) flag (up_of l) F

-- with every node a root, the stacked equations are the system
abbrev pub Starting : Type 0
Starting = (kind : ℕ → ℕ → ℕ) (cs : List Cell) (n : ℕ) (E : List Pair) → Going kind (graph cs) E true (up_of (roots 0 n)) E

-- 12,544 pairs of room suffice for the arguments of all functions
abbrev pub Room : Type 0
Room = (cs : List Cell) (l : List ℕ) → length cs ≤ 1568 → all_fit cs ≡ true → weight (owes cs) 0 l ≤ 12544

-- and then nothing contains itself
abbrev pub StartingAcyclic : Type 0
StartingAcyclic = (cs : List Cell) (n : ℕ) → length cs ≤ 1568 → Acyclic (graph cs) (up_of (roots 0 n))

-- cells appended to whole terms contain nothing of themselves
abbrev pub GrowingAcyclic : Type 0
GrowingAcyclic = (kind : ℕ → ℕ → ℕ) (cs more : List Cell) (l : List ℕ) (E : List Pair) (flag : Bool) → length (cs ++ more) ≤ 1568 → Whole cs
    → Going kind (graph cs) E flag (up_of l) [] → Acyclic (graph cs) (up_of l) → Acyclic (graph (cs ++ more)) (up_of l)

-- steps of linking follow one another, and are taken back together
abbrev pub Following : Type 0
Following = (l t l' t' l'' t'' : List ℕ) → Logged l t l' t' → Logged l' t' l'' t'' → Logged l t l'' t''

-- cells that spell terms, one after another, are whole terms, and so are more of them after others
abbrev pub Spelling : Type 0
Spelling = (ts : Terms) → Whole (flats ts)

abbrev pub Joining : Type 0
Joining = (cs more : List Cell) → Whole cs → Whole more → Whole (cs ++ more)

-- the node of a term is live, and stays so where cells are appended
abbrev pub Living : Type 0
Living = (cs : List Cell) → length cs ≤ 1568 → (p : ℕ) → Live arena (graph cs) (node_at cs p)

abbrev pub GrowingLive : Type 0
GrowingLive = (cs more : List Cell) (E : List Pair) → AllLive arena (graph cs) E → AllLive arena (graph (cs ++ more)) E
