use Rattle.std.proofs.Common.{◌≡◌, ◌+◌, ◌-◌, ◌*◌, ◌≤◌, length, drop}
use Rattle.graphs.specs.Cells.{span}
use Rattle.unification.specs.State.{cells_in}
use Rattle.unification.proofs.arena.Arena.end_of.Given as goal

abbrev pub invariant-loop-need : goal.invariant-loop-need
invariant-loop-need l = (l.at + span (drop l.at (cells_in l.self)) l.need ≡ l.place + span (drop l.place (cells_in l.self)) 1) × (l.need ≤ 1 + 256 * l.at)

abbrev pub decreases-loop-need : goal.decreases-loop-need
decreases-loop-need l = length (cells_in l.self) - l.at
