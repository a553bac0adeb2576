use Rattle.std.proofs.Common.{◌≡◌, ◌++◌, drop, vec_items}
use Rattle.cases.specs.Repeats.{rounds}
use Rattle.cases.proofs.repeat.Given as goal

abbrev pub invariant-loop-round : goal.invariant-loop-round
invariant-loop-round l = vec_items l.out ≡ vec_items l.initial.out ++ rounds (drop l.from l.text) l.round
