use Rattle.std.proofs.Common.{◌≡◌, min, length, drop, ap, ◌∙◌, rules}
use Rattle.std.proofs.lemmas.List.{take_rest}
use Rattle.cases.proofs.Escaping.{drop_min}
use Rattle.cases.proofs.after.Goals as goal

pub returns : goal.returns
returns c =
    let m : c.min.result ≡ min c.args.n (length c.args.text.now) = search rules in
    take_rest c.args.text.now c.min.result ∙ (ap (λ k. drop k c.args.text.now) m ∙ drop_min c.args.n c.args.text.now)
