use Rattle.std.proofs.Common.{◌≡◌, ◌<◌, drop}
use Rattle.terms.specs.Shape.{skip}
use Rattle.terms.proofs.check.after_by_cells.Given as goal

abbrev pub invariant-loop-i : goal.invariant-loop-i
invariant-loop-i l = (skip l.due (drop l.i l.cells) ≡ skip 1 l.cells) × (0 < l.due)
