-- One pair after another: what a turn needs, and what it keeps.
use Rattle.std.specs.Prelude.{◌≡◌, ℕ, ◌+◌, ◌<◌, ◌≤◌, Bool, true, false, ◌≢◌, List, [], ◌∷◌, length, Some, None, Option}
use Rattle.terms.specs.declared.Cell.{Cell}
use Rattle.graphs.specs.declared.Pair.{Pair}
use Rattle.unification.specs.declared.solve.Meet.{Meet}
use Rattle.unification.specs.declared.solve.Meet.TheVariants.{Bind, Same, Unequal, Args}
use Rattle.unification.specs.declared.solve.Turn.{Turn}
use Rattle.unification.specs.declared.solve.Turn.TheVariants.{Plain, Deep, Differ}
use Rattle.unification.specs.declared.solve.Tally.{Tally}
use Rattle.graphs.specs.Terms.{KTerm}
use Rattle.graphs.specs.Graph.{Values, Stacked, Acyclic, free, atom, app}
use Rattle.graphs.specs.Links.{up_of, weight}
use Rattle.graphs.specs.Meaning.{arena, kind_algebra, Going, Live}
use Rattle.graphs.specs.Search.{StillAcyclic}
use Rattle.graphs.specs.Cells.{graph, owes, arguments}

-- how two roots meet, the first above the second
abbrev pub Meets : (ℕ → ℕ → ℕ) → List Cell → ℕ → ℕ → Option Meet → Type 0
Meets kind cs r q (Some Bind) = graph cs r ≡ free
Meets kind cs r q (Some Same) = (f v : ℕ) × ((graph cs r ≡ atom f v) × (graph cs q ≡ atom f v))
Meets kind cs r q (Some Unequal) = (f v f' v' : ℕ) × ((graph cs r ≡ atom f v) × (graph cs q ≡ atom f' v') × (kind f v ≡ kind f' v') × ¬ ((f ≡ f') × (v ≡ v')))
Meets kind cs r q None = (ρ : ℕ → KTerm) → Values (kind_algebra kind) (graph cs) ρ → ρ r ≢ ρ q
Meets kind cs r q (Some (Args n)) = (s : ℕ) × ((graph cs r ≡ app s (arguments cs n (r + 1))) × (graph cs q ≡ app s (arguments cs n (q + 1))))

-- a node that has a link, and is a variable's or a cell's
abbrev pub Node : List Cell → ℕ → ℕ → Type 0
Node cs m n = (n < m) × Live arena (graph cs) n

abbrev pub Within : List Cell → ℕ → List Pair → Type 0
Within cs m [] = Unit {0}
Within cs m (p ∷ ps) = Node cs m p.left × Node cs m p.right × Within cs m ps

abbrev pub fuel : List Cell → ℕ → ℕ
fuel cs n = 1 + owes cs n

-- What a turn needs to be safe: nodes that have a link, and room for all that may be stacked. The stack holds the n pairs st, and can hold m.
pub record Ready (cs : List Cell) (l : List ℕ) (st : List Pair) (n m : ℕ) : Type 0 where
  pub within : Within cs (length l) st
  pub room : weight (owes cs) 0 l + n ≤ m

-- every system that stood for equations still does, with the flag so changed
abbrev pub Kept : (ℕ → ℕ → ℕ) → List Cell → List ℕ → List Pair → List ℕ → List Pair → (Bool → Bool) → Type 0
Kept kind cs l st l' st' to = (E : List Pair) (flag : Bool) → Going kind (graph cs) E flag (up_of l) st → Going kind (graph cs) E (to flag) (up_of l') st'

-- no kinds fit what the system stands for
abbrev pub Lost : (ℕ → ℕ → ℕ) → List Cell → List ℕ → List Pair → Type 0
Lost kind cs l st = (E : List Pair) (flag : Bool) → Going kind (graph cs) E flag (up_of l) st
    → (ρ : ℕ → KTerm) → Values (kind_algebra kind) (graph cs) ρ → ¬ Stacked (kind_algebra kind) ρ E

-- what contained nothing of itself still does not
abbrev pub Orderly : List Cell → List ℕ → List ℕ → Type 0
Orderly cs l l' = Acyclic (graph cs) (up_of l) → Acyclic (graph cs) (up_of l')

abbrev pub same_flag : Bool → Bool
same_flag b = b

abbrev pub flag_off : Bool → Bool
flag_off b = false

-- from n pairs st to the k pairs st'
pub record Went (kind : ℕ → ℕ → ℕ) (cs : List Cell) (l : List ℕ) (st : List Pair) (n : ℕ) (l' : List ℕ) (st' : List Pair) (k m : ℕ) (to : Bool → Bool) : Type 0 where
  pub ready : Ready cs l' st' k m
  pub kept : Kept kind cs l st l' st' to
  pub less : weight (fuel cs) 0 l' + k < weight (fuel cs) 0 l + n

abbrev pub Turned : (ℕ → ℕ → ℕ) → List Cell → List ℕ → List Pair → ℕ → List ℕ → List Pair → ℕ → ℕ → Option Turn → Type 0
Turned kind cs l st n l' st' k m (Some Plain) = Went kind cs l st n l' st' k m same_flag × Orderly cs l l'
Turned kind cs l st n l' st' k m (Some Deep) = Went kind cs l st n l' st' k m same_flag
Turned kind cs l st n l' st' k m (Some Differ) = Went kind cs l st n l' st' k m flag_off × Orderly cs l l'
Turned kind cs l st n l' st' k m None = Lost kind cs l st

-- what is known once a turn is counted in
abbrev pub tallied : Tally → Turn → Tally
tallied t Plain = t
tallied t Deep = record { equal = t.equal; deep = true }
tallied t Differ = record { equal = false; deep = t.deep }

-- All pairs. The links stand for the equations, with the flag that tells whether constants differ; and unless a function was linked or
-- bound, what contained nothing of itself still does not.
abbrev pub Ran : (ℕ → ℕ → ℕ) → List Cell → List ℕ → List Pair → List ℕ → Option Tally → Type 0
Ran kind cs l st l' (Some t) = ((E : List Pair) → Going kind (graph cs) E true (up_of l) st → Going kind (graph cs) E t.equal (up_of l') []) × (t.deep ≡ false → Orderly cs l l')
Ran kind cs l st l' None = (E : List Pair) → Going kind (graph cs) E true (up_of l) st
    → (ρ : ℕ → KTerm) → Values (kind_algebra kind) (graph cs) ρ → ¬ Stacked (kind_algebra kind) ρ E

-- whether still no application contains itself, where one was linked or bound
abbrev pub StaysChecked : Bool → List Cell → List ℕ → List ℕ → Bool → Type 0
StaysChecked true cs l nodes b = StillAcyclic cs l nodes b
StaysChecked false cs l nodes b = b ≡ true
