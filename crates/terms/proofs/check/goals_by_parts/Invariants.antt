use Rattle.std.proofs.Common.{◌≡◌, ◌+◌, ◌≤◌, length}
use Rattle.terms.specs.Shape.{goals}
use Rattle.terms.proofs.check.goals_by_parts.Given as goal

abbrev pub invariant-loop-c : goal.invariant-loop-c
invariant-loop-c l = (goals l.n 0 l.rest ≡ goals 0 0 l.cells) × (l.n + length l.rest ≤ length l.cells)

abbrev pub decreases-loop-c : goal.decreases-loop-c
decreases-loop-c l = length l.rest
