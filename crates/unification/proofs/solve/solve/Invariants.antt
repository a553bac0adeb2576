use Rattle.std.proofs.Common.{◌≡◌, ◌+◌, true, false, List}
use Rattle.graphs.specs.declared.Pair.{Pair}
use Rattle.graphs.specs.Links.{up_of, weight, Logged}
use Rattle.graphs.specs.Meaning.{Going}
use Rattle.graphs.specs.Cells.{graph}
use Rattle.unification.specs.Held.{held, count, room}
use Rattle.unification.specs.Run.{Ready, fuel, Orderly}
use Rattle.unification.specs.State.{cells_in, links_in, trail_in}
use Rattle.unification.proofs.solve.solve.Given as goal

abbrev pub invariant-loop-p : goal.invariant-loop-p
invariant-loop-p g l = Ready (cells_in l.arena) (links_in l.links) (held l.pairs) (count l.pairs) (room l.pairs)
    × ((E : List Pair) → Going (g.S.Signature.kind l.signature) (graph (cells_in l.arena)) E true (up_of (links_in l.initial.links)) (held l.initial.pairs)
    → Going (g.S.Signature.kind l.signature) (graph (cells_in l.arena)) E l.tally.equal (up_of (links_in l.links)) (held l.pairs))
    × (l.tally.deep ≡ false → Orderly (cells_in l.arena) (links_in l.initial.links) (links_in l.links))
    × Logged (links_in l.initial.links) (trail_in l.initial.links) (links_in l.links) (trail_in l.links)

abbrev pub decreases-loop-p : goal.decreases-loop-p
decreases-loop-p g l = weight (fuel (cells_in l.arena)) 0 (links_in l.links) + count l.pairs
