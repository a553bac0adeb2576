-- What the outcome of an equation means.
use Rattle.std.specs.Prelude.{◌≡◌, ℕ, ◌+◌, Bool, true, false, cond, ◌&&◌, List, [], ◌∷◌, ◌++◌, length, get_or, Some, None, Option, ◌==◌, nat_lt, slice_index_or}
use Rattle.terms.specs.declared.Cell.{Cell}
use Rattle.graphs.specs.declared.Pair.{Pair}
use Rattle.unification.specs.declared.Outcome.{Outcome}
use Rattle.unification.specs.declared.Outcome.TheVariants.{Solved, False, Wrong}
use Rattle.graphs.specs.Graph.{Ordered, Acyclic, onto}
use Rattle.graphs.specs.Links.{up_of, Logged}
use Rattle.graphs.specs.Meaning.{arena, Going, AllLive, MostGeneral, answer, KindsOnly, NoKinds}
use Rattle.graphs.specs.Cells.{node_at, graph, blank, arguments}
use Rattle.graphs.specs.Answer.{Lowest}

-- the equation between the terms at two places
abbrev pub equation : List Cell → ℕ → ℕ → List Pair
equation cs left right = record { left = node_at cs left; right = node_at cs right } ∷ []

-- functions of one symbol and arity
abbrev pub same_functor : Cell → Cell → Bool
same_functor x y = x.tag == 2 && (y.tag == 2 && (x.value == y.value && x.arity == y.arity))

-- whether such stand at two places
abbrev pub functors_match : List Cell → ℕ → ℕ → Bool
functors_match cs left right = (nat_lt left (length cs) && nat_lt right (length cs)) && same_functor (slice_index_or cs left blank) (slice_index_or cs right blank)

-- the arity of two such
abbrev pub shared_arity : List Cell → ℕ → ℕ → Option ℕ
shared_arity cs left right = cond (functors_match cs left right) (Some (slice_index_or cs left blank).arity) None

-- an equation stacked: between functions of one symbol and arity, as those between their arguments
abbrev pub opened : List Cell → ℕ → ℕ → List Pair → List Pair
opened cs left right st =
    cond (functors_match cs left right) (onto (arguments cs (get_or cs left blank).arity (left + 1)) (arguments cs (get_or cs left blank).arity (right + 1)) st)
    (record { left = node_at cs left; right = node_at cs right } ∷ st)

-- Solved: the links give a most general solution, in which the lowest of tied variables stands for all. False: kinds fit, and no terms do.
-- Wrong: no kinds fit.
abbrev pub Told : (ℕ → ℕ → ℕ) → List Cell → List Pair → List ℕ → Outcome → Type 0
Told kind cs E l Solved = (rank : ℕ → ℕ) × (Ordered (graph cs) (up_of l) rank × MostGeneral arena (graph cs) E (answer arena (graph cs) (up_of l) rank) × Lowest (answer arena (graph cs) (up_of l) rank))
Told kind cs E l False = KindsOnly kind arena (graph cs) E
Told kind cs E l Wrong = NoKinds kind arena (graph cs) E

-- from a solved equation the next one goes on
abbrev pub Onward : (ℕ → ℕ → ℕ) → List Cell → List Pair → List ℕ → Outcome → Type 0
Onward kind cs E l Solved = Going kind (graph cs) E true (up_of l) [] × Acyclic (graph cs) (up_of l)
Onward kind cs E l False = Unit {0}
Onward kind cs E l Wrong = Unit {0}

-- what is told of every system of equations that the links and the stacked pairs stood for
abbrev pub Tells : (ℕ → ℕ → ℕ) → List Cell → List ℕ → List Pair → List ℕ → Outcome → Type 0
Tells kind cs l st l' o = (E : List Pair) → Going kind (graph cs) E true (up_of l) st → Acyclic (graph cs) (up_of l) → AllLive arena (graph cs) E → Told kind cs E l' o

abbrev pub Leads : (ℕ → ℕ → ℕ) → List Cell → List ℕ → List Pair → List ℕ → Outcome → Type 0
Leads kind cs l st l' o = (E : List Pair) → Going kind (graph cs) E true (up_of l) st → Acyclic (graph cs) (up_of l) → Onward kind cs E l' o

-- the same of the equation between the terms at two places, added to those that stood
abbrev pub TellsNext : (ℕ → ℕ → ℕ) → List Cell → List ℕ → ℕ → ℕ → List ℕ → Outcome → Type 0
TellsNext kind cs l left right l' o = (E : List Pair) → Going kind (graph cs) E true (up_of l) [] → Acyclic (graph cs) (up_of l) → AllLive arena (graph cs) E → Told kind cs (E ++ equation cs left right) l' o

abbrev pub LeadsNext : (ℕ → ℕ → ℕ) → List Cell → List ℕ → ℕ → ℕ → List ℕ → Outcome → Type 0
LeadsNext kind cs l left right l' o = (E : List Pair) → Going kind (graph cs) E true (up_of l) [] → Acyclic (graph cs) (up_of l) → Onward kind cs (E ++ equation cs left right) l' o

-- only a solved equation leaves links behind
abbrev pub Settles : List ℕ → List ℕ → List ℕ → List ℕ → Outcome → Type 0
Settles l t l' t' Solved = Logged l t l' t'
Settles l t l' t' False = (l' ≡ l) × (t' ≡ t)
Settles l t l' t' Wrong = (l' ≡ l) × (t' ≡ t)

abbrev pub outcome_of : Bool → Outcome
outcome_of true = Solved
outcome_of false = False

-- equations have one outcome
abbrev pub OneOutcome : Type 0
OneOutcome = (kind : ℕ → ℕ → ℕ) (cs : List Cell) (E : List Pair) (l l' : List ℕ) (a b : Outcome) → Told kind cs E l a → Told kind cs E l' b → a ≡ b
