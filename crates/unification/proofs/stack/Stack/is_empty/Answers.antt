use Rattle.std.proofs.Common.{rules}
use Rattle.std.proofs.lemmas.Bool.{eqb-true}
use Rattle.unification.proofs.Stacks.{newest_zero}
use Rattle.unification.proofs.stack.Stack.is_empty.Goals as goal

pub returns : goal.returns
returns g c = record { value = search rules; none = λ e. newest_zero _ _ (eqb-true c.args.self.now.len 0 e) }
