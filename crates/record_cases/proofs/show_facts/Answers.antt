use Rattle.std.proofs.Common.{◌≡◌, ◌++◌, codes, decimal, rules, arith}
use Rattle.std.specs.Prelude.{string_bytes}
use Rattle.std.proofs.lemmas.Result.{IfOk-weaker}
use Rattle.record_cases.proofs.Showing.{facts_few, facts_many}
use Rattle.record_cases.proofs.show_facts.Goals as goal

pub returns-then-n-gt16 : goal.returns-then-n-gt16
returns-then-n-gt16 g c =
    let list = g.S.Source.clauses c.args.source.now c.args.predicate.symbol c.args.predicate.arity in
    let v = string_bytes c.args.out.now in
    let w : string_bytes c.push_str.new.self ≡ v ++ (codes " | " ++ decimal c.count-n.result) = search rules in
    let x = c.in_ok-show_fact.ensures in
    IfOk-weaker c.show_fact-then-n-gt16.result _ _ (λ u h. facts_many list c.count-n.result v _ _ _ c.count-n.ensures c.if-n-gt16.true w x h) c.show_fact-then-n-gt16.ensures

pub returns : goal.returns
returns g c =
    let list = g.S.Source.clauses c.args.source.now c.args.predicate.symbol c.args.predicate.arity in
    let v = string_bytes c.args.out.now in
    let w : string_bytes c.push_str.new.self ≡ v ++ (codes " | " ++ decimal c.count-n.result) = search rules in
    facts_few list c.count-n.result c.loop-i.i v _ _ c.count-n.ensures c.if-n-gt16.false (omega arith) w c.loop-i.invariant
