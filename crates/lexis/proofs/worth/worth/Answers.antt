use Rattle.lexis.proofs.Numerals.{numeral}
use Rattle.lexis.proofs.worth.worth.Goals as goal

pub returns : goal.returns
returns c = record { value = c.judge.ensures; numeral = numeral c.args.text.now c.args.token c.judge.result c.judge.ensures }
