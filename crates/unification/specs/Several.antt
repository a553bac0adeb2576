-- Several equations at once, each between the terms at two places.
use Rattle.std.specs.Prelude.{◌≡◌, ℕ, List, [], ◌∷◌, ◌++◌}
use Rattle.typing.specs.Terms.{Eqs, Signature}
use Rattle.typing.specs.Rules.{Means}
use Rattle.terms.specs.declared.Cell.{Cell}
use Rattle.graphs.specs.declared.Pair.{Pair}
use Rattle.graphs.specs.Cells.{node_at}
use Rattle.graphs.specs.Flat.{Stands}
use Rattle.unification.specs.declared.Outcome.{Outcome}
use Rattle.unification.specs.declared.Outcome.TheVariants.{Solved}
use Rattle.unification.specs.declared.Equation.{Equation}
use Rattle.unification.specs.Standing.{named, Standing}

-- the nodes of each equation, stacked one after another
abbrev pub stacked : List Cell → List Equation → List Pair → List Pair
stacked cs [] st = st
stacked cs (e ∷ es) st = stacked cs es (record { left = node_at cs e.left; right = node_at cs e.right } ∷ st)

-- F are the equations between the terms that stand at the places, in the order of the places: the oldest first
abbrev pub SpeltAt : List Cell → List Equation → Eqs → Type 0
SpeltAt cs [] [] = Unit {0}
SpeltAt cs [] (q ∷ F) = ⊥
SpeltAt cs (e ∷ es) [] = ⊥
SpeltAt cs (e ∷ es) (q ∷ F) = Stands cs e.left q.left × Stands cs e.right q.right × SpeltAt cs es F

-- whatever the links stood for, and whatever the terms at the places: the outcome is that of all their equations added, and if it is
-- solved, the new links stand for them too
abbrev pub UnifiedAll : Signature → List Cell → List ℕ → List Equation → List ℕ → Outcome → Type 0
UnifiedAll kind cs l es l' o = (E F : Eqs) → Standing kind cs l E → SpeltAt cs es F
    → Means kind (F ++ E) (named o) × (o ≡ Solved → Standing kind cs l' (F ++ E))
