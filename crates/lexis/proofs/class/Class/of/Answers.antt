use Rattle.std.proofs.Common.{rules}
use Rattle.lexis.proofs.Table.{classes, class_at}
use Rattle.lexis.proofs.class.Class.of.Goals as goal

pub returns : goal.returns
unfolding classes
returns c = class_at c.args.b (search rules)
