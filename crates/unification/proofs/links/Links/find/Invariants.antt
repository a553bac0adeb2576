use Rattle.std.proofs.Common.{◌≡◌, ◌<◌, ◌≤◌, length}
use Rattle.graphs.specs.Graph.{find}
use Rattle.graphs.specs.Links.{up_of}
use Rattle.unification.specs.State.{links_in}
use Rattle.unification.proofs.links.Links.find.Given as goal

abbrev pub invariant-loop-at : goal.invariant-loop-at
invariant-loop-at l = (l.at ≤ l.node) × (l.at < length (links_in l.self)) × (find (up_of (links_in l.self)) l.at ≡ find (up_of (links_in l.self)) l.node)

abbrev pub decreases-loop-at : goal.decreases-loop-at
decreases-loop-at l = l.at
