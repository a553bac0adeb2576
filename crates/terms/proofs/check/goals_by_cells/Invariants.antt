use Rattle.std.proofs.Common.{◌≡◌, ◌≤◌, drop}
use Rattle.terms.specs.Shape.{goals}
use Rattle.terms.proofs.check.goals_by_cells.Given as goal

abbrev pub invariant-loop-i : goal.invariant-loop-i
invariant-loop-i l = (goals l.n l.due (drop l.i l.cells) ≡ goals 0 0 l.cells) × (l.n ≤ l.i)
