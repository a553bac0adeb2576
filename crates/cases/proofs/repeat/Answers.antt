use Rattle.std.proofs.Common.{◌++◌, drop, vec_items, ap, ◌∙◌, arith}
use Rattle.std.proofs.lemmas.List.{take_rest}
use Rattle.cases.specs.Escapes.{unescaped}
use Rattle.cases.proofs.Repeating.{rounds_more, rounds_all}
use Rattle.cases.proofs.repeat.Goals as goal

pub loop-round-preserved : goal.loop-round-preserved
loop-round-preserved c =
    let t = c.args.text.now in
    let from = c.head-times.result.1 in
    rounds_more (drop from t) c.loop-round.round (vec_items c.args.out.now) (vec_items c.loop-round.out) (vec_items c.unescape.new.out) c.loop-round.invariant
    (c.in_ok-unescape.ensures ∙ ap (λ x. vec_items c.loop-round.out ++ unescaped c.loop-round.round x) (take_rest t from))

pub returns : goal.returns
returns c =
    let h = c.head-times.ensures in
    rounds_all c.args.text.now c.head-times.result.1 c.head-times.result.0 c.loop-round.round (vec_items c.args.out.now) (vec_items c.loop-round.out) h.body h.times
    (omega arith) c.loop-round.invariant
