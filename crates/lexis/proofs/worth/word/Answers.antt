use Rattle.std.proofs.Common.{rules}
use Rattle.lexis.proofs.Words.{word_within}
use Rattle.lexis.proofs.worth.word.Goals as goal

pub returns : goal.returns
returns c = word_within c.args.text.now c.args.span.start c.args.span.end c.min-start.result c.min-end.result (search rules) (search rules)
