use Rattle.std.proofs.Common.{rules}
use Rattle.unification.proofs.Stacks.{newest_none}
use Rattle.unification.proofs.stack.Stack.new.Goals as goal

pub returns : goal.returns
returns g c = record { held = newest_none _; count = search rules; room = search rules }
