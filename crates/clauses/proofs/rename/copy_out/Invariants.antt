use Rattle.std.proofs.Common.{◌≡◌, ◌++◌, take, drop}
use Rattle.clauses.specs.Clauses.{renamed}
use Rattle.clauses.proofs.rename.copy_out.Given as goal

abbrev pub invariant-loop-i : goal.invariant-loop-i
invariant-loop-i l = l.out ≡ renamed l.base (take l.i l.clause) ++ drop l.i l.initial.out
