use Rattle.std.proofs.Common.{◌∙◌}
use Rattle.unification.proofs.Stacks.{newest_last}
use Rattle.unification.proofs.stack.Stack.top.Goals as goal

pub returns : goal.returns
returns g c = newest_last c.args.self.now.len c.args.self.now.items.now c.args.self.now.inside c.copied.result (c.copied.ensures ∙ c.last.ensures.value)
