use Rattle.std.proofs.Common.{◌≡◌, drop}
use Rattle.cases.specs.Repeats.{times_of, body_of}
use Rattle.cases.proofs.head.Given as goal

abbrev pub invariant-loop-i : goal.invariant-loop-i
invariant-loop-i l = (times_of l.times (drop l.i l.text) ≡ times_of 0 l.text) × (body_of (drop l.i l.text) ≡ body_of l.text)
