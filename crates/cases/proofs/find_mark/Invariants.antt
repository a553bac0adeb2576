use Rattle.std.proofs.Common.{◌≡◌, ◌-◌, ◌≤◌, length}
use Rattle.cases.specs.Marks.{mark_in}
use Rattle.cases.proofs.find_mark.Given as goal

abbrev pub invariant-loop-first : goal.invariant-loop-first
invariant-loop-first l = (length l.rest ≤ length l.text) × (mark_in l.mark (length l.text - length l.rest) l.rest ≡ mark_in l.mark 0 l.text)

abbrev pub decreases-loop-first : goal.decreases-loop-first
decreases-loop-first l = length l.rest
