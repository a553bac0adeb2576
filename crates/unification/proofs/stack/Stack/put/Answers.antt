use Rattle.std.proofs.Common.{rules}
use Rattle.unification.proofs.Stacks.{newest_push}
use Rattle.unification.proofs.stack.Stack.put.Goals as goal

pub returns : goal.returns
returns g c = record { held = newest_push _ _ _ (search rules); count = search rules; room = search rules }
