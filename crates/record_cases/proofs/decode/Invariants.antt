use Rattle.std.proofs.Common.{◌≡◌, ◌++◌, length, vec_items}
use Rattle.record_cases.specs.Spelling.{spelled}
use Rattle.record_cases.proofs.decode.Given as goal

abbrev pub invariant-loop-left : goal.invariant-loop-left
invariant-loop-left l = vec_items l.out ++ spelled l.left ≡ vec_items l.initial.out ++ spelled l.text

abbrev pub decreases-loop-left : goal.decreases-loop-left
decreases-loop-left l = length l.left
