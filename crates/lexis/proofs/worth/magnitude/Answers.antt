use Rattle.std.proofs.Common.{◌+◌, ◌-◌, ◌*◌, min, ◌∙◌, rules}
use Rattle.std.proofs.lemmas.Iterator.{YieldsList-from_slice}
use Rattle.std.proofs.lemmas.Iterator.Consumers.{fold_from_yields_List}
use Rattle.lexis.proofs.Words.{decimal_held}
use Rattle.lexis.proofs.worth.magnitude.Goals as goal

pub returns : goal.returns
returns c =
    fold_from_yields_List _ (λ n b. min (min (n * 10) 4294967295 + (b - 48)) 4294967295) 0 c.fold.result c.fold.ensures.ran (YieldsList-from_slice c.args.digits.now (search rules)) (λ n x m q k. search rules)
    ∙ decimal_held c.args.digits.now
