-- What reading a variable gives: the spelling of its term in the solved form.
use Rattle.std.specs.Prelude.{◌≡◌, ℕ, ◌+◌, ◌-◌, ◌<◌, ◌≤◌, List, ◌++◌, map, length, take, drop, Some, None, Option}
use Rattle.typing.specs.Terms.{Term, var, Eqs, Signature, Subst}
use Rattle.typing.specs.Rules.{Reads}
use Rattle.terms.specs.declared.Cell.{Cell}
use Rattle.graphs.specs.Terms.{pack}
use Rattle.graphs.specs.Graph.{Shape, free, atom, app, Values}
use Rattle.graphs.specs.Links.{up_of}
use Rattle.graphs.specs.Meaning.{arena, term_algebra}
use Rattle.graphs.specs.Cells.{graph, arguments}
use Rattle.graphs.specs.Flat.{flat, flats}
use Rattle.unification.specs.Standing.{Standing}

-- ρ is the term of each node in the solved form: linked nodes have one term, and a root without a cell is a variable
pub record SolvedForm (cs : List Cell) (l : List ℕ) (ρ : ℕ → Term) : Type 0 where
  pub values : Values term_algebra (graph cs) ρ
  pub linked : (n : ℕ) → ρ n ≡ ρ (up_of l n)
  pub bare : (r : ℕ) → up_of l r ≡ r → graph cs r ≡ free → ρ r ≡ var (r - arena)

-- the first cell of a root's spelling
abbrev pub head_of : Shape → ℕ → Cell
head_of free r = record { tag = 0; form = 0; arity = 0; value = r - arena }
head_of (atom f v) r = record { tag = 1; form = f; arity = 0; value = v }
head_of (app s ks) r = record { tag = 2; form = 0; arity = length ks; value = s }

-- the spelling of the terms of nodes, one after another
abbrev pub spelt : (ℕ → Term) → List ℕ → List Cell
spelt ρ ks = flats (pack (map ρ ks))

-- so many cells taken from the room leave the rest; none where they are more
abbrev pub Taken : ℕ → ℕ → Option ℕ → Type 0
Taken room k (Some rest) = rest + k ≡ room
Taken room k None = room < k

abbrev pub Counts : List Cell → List ℕ → ℕ → ℕ → Option ℕ → Type 0
Counts cs l n room o = (ρ : ℕ → Term) → SolvedForm cs l ρ → Taken room (length (flat (ρ n))) o

-- amid the n arguments of a root: those of the nodes ks are not counted yet
abbrev pub Counting : List Cell → List ℕ → ℕ → ℕ → ℕ → ℕ → List ℕ → Type 0
Counting cs l r n room rest ks = (rest < room) × ((ρ : ℕ → Term) → SolvedForm cs l ρ
    → rest + length (spelt ρ (arguments cs n (r + 1))) + 1 ≡ room + length (spelt ρ ks))

-- the cells xs in place of those from a place on
abbrev pub spliced : List Cell → ℕ → List Cell → List Cell
spliced out at xs = take at out ++ (xs ++ drop (at + length xs) out)

-- where there is room, the node's spelling is written there, up to the place that is told
abbrev pub Writes : List Cell → List ℕ → ℕ → List Cell → ℕ → List Cell → ℕ → Type 0
Writes cs l n out at out' end = (ρ : ℕ → Term) → SolvedForm cs l ρ → at + length (flat (ρ n)) ≤ length out
    → (end ≡ at + length (flat (ρ n))) × (out' ≡ spliced out at (flat (ρ n)))

-- amid the n arguments of a root, from the slice out₀ and the place at₀ on: those of the nodes ks are not written yet
abbrev pub Writing : List Cell → List ℕ → ℕ → ℕ → List Cell → ℕ → List Cell → ℕ → List ℕ → Type 0
Writing cs l r n out₀ at₀ out at ks = (length out ≡ length out₀) × (at₀ ≤ at) × ((ρ : ℕ → Term) → SolvedForm cs l ρ
    → at₀ + length (spelt ρ (arguments cs n (r + 1))) ≤ length out₀
    → (at + length (spelt ρ ks) ≡ at₀ + length (spelt ρ (arguments cs n (r + 1))))
    × (spliced out at (spelt ρ ks) ≡ spliced out₀ at₀ (spelt ρ (arguments cs n (r + 1)))))

-- the cells xs are written from the start, and their number is told; or there are too many, and nothing changes
abbrev pub Written : List Cell → List Cell → Option ℕ → List Cell → Type 0
Written xs out (Some n) out' = (length xs ≤ length out) × (n ≡ length xs) × (out' ≡ xs ++ drop (length xs) out)
Written xs out None out' = (length out < length xs) × (out' ≡ out)

-- whatever equations the links stand for: what is written is the variable's term in their reading
abbrev pub ReadsVariable : List Cell → List ℕ → ℕ → List Cell → Option ℕ → List Cell → Type 0
ReadsVariable cs l v out r out' = (kind : Signature) (E : Eqs) (θ : Subst) → Standing kind cs l E → Reads θ E → Written (flat (θ v)) out r out'
