-- What links stand for, as equations between terms; and what one more equation between two terms comes to.
use Rattle.std.specs.Prelude.{◌≡◌, ℕ, true, ◌↔◌, List, [], ◌∷◌, ◌++◌}
use Rattle.typing.specs.Terms.{Term, Equation, ◌≈◌, Eqs, Signature}
use Rattle.typing.specs.Rules.{solved, false, wrong, Means, ComesTo}
use Rattle.typing.specs.Rules as Rules
use Rattle.terms.specs.declared.Cell.{Cell}
use Rattle.graphs.specs.declared.Pair.{Pair}
use Rattle.unification.specs.declared.Outcome.{Outcome}
use Rattle.unification.specs.declared.Outcome.TheVariants.{Solved, False, Wrong}
use Rattle.graphs.specs.Graph.{Acyclic}
use Rattle.graphs.specs.Links.{up_of}
use Rattle.graphs.specs.Meaning.{arena, decode, Going, AllLive}
use Rattle.graphs.specs.Cells.{graph}
use Rattle.graphs.specs.Flat.{Stands}
use Rattle.graphs.specs.Whole.{Whole}

-- the rules' name of an outcome
abbrev pub named : Outcome → Rules.Outcome
named Solved = solved
named False = false
named Wrong = wrong

-- the equation of two nodes
abbrev pub between : List Cell → Pair → Equation
between cs p = decode arena (graph cs) p.left ≈ decode arena (graph cs) p.right

-- the equations of pairs of nodes, the newest first
abbrev pub decoded : List Cell → List Pair → Eqs
decoded cs [] = []
decoded cs (p ∷ ps) = decoded cs ps ++ (between cs p ∷ [])

-- the links l over the cells cs stand for the solved equations E
pub record Standing (kind : Signature) (cs : List Cell) (l : List ℕ) (E : Eqs) : Type 0 where
  pub whole : Whole cs
  pub pairs : List Pair
  pub live : AllLive arena (graph cs) pairs
  pub going : Going kind (graph cs) pairs true (up_of l) []
  pub acyclic : Acyclic (graph cs) (up_of l)
  pub equations : decoded cs pairs ≡ E

-- whatever the links stood for, and whatever the terms at two places: the outcome is that of their equation added, and if it is solved,
-- the new links stand for it too
abbrev pub Unified : Signature → List Cell → List ℕ → ℕ → ℕ → List ℕ → Outcome → Type 0
Unified kind cs l left right l' o = (E : Eqs) (t u : Term) → Standing kind cs l E → Stands cs left t → Stands cs right u
    → Means kind ((t ≈ u) ∷ E) (named o) × (o ≡ Solved → Standing kind cs l' ((t ≈ u) ∷ E))

-- an outcome that has its meaning is the one to which the rules come, in every order
abbrev pub FollowsRules : Type 0
FollowsRules = (kind : Signature) (E : Eqs) (o : Rules.Outcome) → Means kind E o ↔ ComesTo kind E o
