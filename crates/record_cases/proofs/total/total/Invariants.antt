use Rattle.std.proofs.Common.{◌≡◌, ◌*◌, ◌≤◌, length, take}
use Rattle.record_cases.specs.Sizes.{sizes}
use Rattle.record_cases.proofs.total.total.Given as goal

abbrev pub invariant-loop-i : goal.invariant-loop-i
invariant-loop-i g l =
    (l.all ≡ sizes (take l.i (g.S.Source.clauses l.source l.predicate.symbol l.predicate.arity))) × (l.all ≤ 32 * l.i) × (length l.out ≡ 32)
