use Rattle.std.proofs.Common.{arith, rules}
use Rattle.terms.proofs.Laws.{skip_shorter}
use Rattle.terms.proofs.check.two_terms.Goals as goal

pub overflow_sub-result : goal.overflow_sub-result
overflow_sub-result c = let h = skip_shorter 1 c.args.cells.now c.in_ok-second.second.now (search rules) in omega arith
