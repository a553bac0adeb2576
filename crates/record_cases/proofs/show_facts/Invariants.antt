use Rattle.std.proofs.Common.{◌≡◌, ◌++◌}
use Rattle.std.specs.Prelude.{string_bytes}
use Rattle.record_cases.specs.Shown.{first_shown}
use Rattle.record_cases.proofs.show_facts.Given as goal

abbrev pub invariant-loop-i : goal.invariant-loop-i
invariant-loop-i g l = string_bytes l.out ≡ string_bytes l.initial.out ++ first_shown (g.S.Source.clauses l.source l.predicate.symbol l.predicate.arity) l.i
