use Rattle.std.proofs.Common.{◌≡◌, ℕ, ◌<◌, ◌≤◌, ◌++◌, length, vec_items}
use Rattle.cases.specs.Repeats.{decoded_in, decoded}
use Rattle.cases.proofs.decode.Given as goal

abbrev pub invariant-loop-start : goal.invariant-loop-start
invariant-loop-start l =
    (length l.rest ≤ length l.case)
    × ((k : ℕ) × (length l.rest < k) × (vec_items l.out ++ decoded_in k l.rest ≡ vec_items l.initial.out ++ decoded l.case))

abbrev pub decreases-loop-start : goal.decreases-loop-start
decreases-loop-start l = length l.rest
