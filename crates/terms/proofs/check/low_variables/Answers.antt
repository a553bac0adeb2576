use Rattle.std.proofs.Common.{rules}
use Rattle.terms.proofs.Laws.{all_low_of}
use Rattle.terms.proofs.check.low_variables.Goals as goal

pub returns : goal.returns
returns c = all_low_of c.all.result c.args.cells.now (search rules)
