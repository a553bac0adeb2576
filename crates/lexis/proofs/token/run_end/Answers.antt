use Rattle.std.proofs.Common.{rules, ◌+◌, ◌-◌, not, length, drop, ap, ◌∙◌, arith}
use Rattle.std.specs.Option.{unwrap_or}
use Rattle.std.proofs.lemmas.List.{take_all, length-drop}
use Rattle.std.proofs.lemmas.Iterator.{YieldsList-from_slice}
use Rattle.std.proofs.lemmas.Iterator.Search.{position_from_yields_List}
use Rattle.lexis.proofs.Ends.{end_found}
use Rattle.lexis.proofs.token.run_end.Goals as goal

pub returns-clause-end : goal.returns-clause-end
returns-clause-end g c = λ test t.
    let whole = take_all (length c.args.text.now - c.args.at) (drop c.args.at c.args.text.now) (omega (arith, length-drop c.args.at c.args.text.now)) in
    let from = YieldsList-from_slice (drop c.args.at c.args.text.now) (c.iter.ensures.rest ∙ whole) in
    let found = position_from_yields_List (λ b. not (test b)) _ _ c.position.result c.position.ensures.ran from (λ x b q k. search rules) in
    ap (λ n. c.args.at + n) (c.unwrap_or.ensures ∙ ap (λ xs. unwrap_or c.position.result (length xs)) whole)
    ∙ end_found test c.args.text.now c.args.at c.position.result found
