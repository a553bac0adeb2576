use Rattle.clauses.specs.declared.Predicate.{Predicate}
use Rattle.clauses.specs.declared.pair.Pair.{Pair}
use Rattle.records.specs.declared.Records.{Records}
use Rattle.terms.specs.declared.Cell.{Cell}
use Rattle.std.proofs.lemmas.Result.{IfOk-weaker}
use Rattle.std.proofs.Common.{◌≡◌, ◌++◌, ℕ, List, ap, ◌∙◌, rules}
use Rattle.std.specs.Prelude.{string_bytes}
use Rattle.clauses.specs.Pairs.{joint}
use Rattle.records.specs.Meaning.{record_clauses}
use Rattle.record_cases.specs.Shown.{bench, facts_shown}
use Rattle.record_cases.specs.Sizes.{sizes}
use Rattle.record_cases.proofs.Telling.{bench_of, pairs_of}
use Rattle.record_cases.proofs.show_pairs.Goals as goal

pub returns : goal.returns
returns c =
    let s = c.args.symbols in
    let bs = c.args.bytes.now in
    let own = record_clauses c.args.records in
    let pair = c.new-pair.result in
    let second = bench_of s bs c.in_ok-new.field-0 c.in_ok-new.ensures in
    let third = bench_of s bs c.in_ok-third.third c.in_ok-third.ensures in
    let fourth = bench_of s bs c.in_ok-fourth.fourth c.in_ok-fourth.ensures in
    let both : (p n : ℕ) → joint (record_clauses pair.first p n) (record_clauses pair.second p n) ≡ joint (own p n) (bench s bs p n) =
    λ p n. ap (λ r. joint (record_clauses r p n) (record_clauses pair.second p n)) c.new-pair.ensures.0
    ∙ ap (λ l. joint (own p n) l) (ap (λ r. record_clauses r p n) c.new-pair.ensures.1 ∙ second p n) in
    let v = string_bytes c.args.out.now in
    let w : string_bytes c.show_facts.new.out ≡ v ++ facts_shown (joint (own s.stage 2) (bench s bs s.stage 2)) =
    c.in_ok-show_facts.ensures
    ∙ (ap (λ (q : Predicate). v ++ facts_shown (joint (record_clauses pair.first q.symbol q.arity) (record_clauses pair.second q.symbol q.arity))) c.pair_of.ensures
    ∙ ap (λ l. v ++ facts_shown l) (both s.stage 2)) in
    let one : c.total-one.result ≡ sizes (own s.lot 2) = c.total-one.ensures ∙ ap (λ (q : Predicate). sizes (own q.symbol q.arity)) c.pair_of-lot.ensures in
    let two : c.total-two.result ≡ sizes (joint (own s.lot 2) (bench s bs s.lot 2)) =
    c.total-two.ensures
    ∙ (ap (λ (q : Predicate). sizes (joint (record_clauses pair.first q.symbol q.arity) (record_clauses pair.second q.symbol q.arity))) c.pair_of-lot.ensures
    ∙ ap sizes (both s.lot 2)) in
    let outer = c.new-5.result in
    let inner = c.new-4.result in
    let clauses : Pair Records Records → ℕ → ℕ → List (List Cell) = λ x p n. joint (record_clauses x.first p n) (record_clauses x.second p n) in
    let rest : clauses inner s.lot 2 ≡ joint (bench s bs s.lot 2) (bench s bs s.lot 2) =
    ap (λ r. joint (record_clauses r s.lot 2) (record_clauses inner.second s.lot 2)) c.new-4.ensures.0
    ∙ (ap (λ r. joint (record_clauses c.in_ok-third.third s.lot 2) (record_clauses r s.lot 2)) c.new-4.ensures.1
    ∙ (ap (λ l. joint l (record_clauses c.in_ok-fourth.fourth s.lot 2)) (third s.lot 2) ∙ ap (λ l. joint (bench s bs s.lot 2) l) (fourth s.lot 2))) in
    let four : c.total-four.result ≡ sizes (joint (joint (own s.lot 2) (bench s bs s.lot 2)) (joint (bench s bs s.lot 2) (bench s bs s.lot 2))) =
    c.total-four.ensures
    ∙ (ap (λ (q : Predicate). sizes (joint (clauses outer.first q.symbol q.arity) (clauses outer.second q.symbol q.arity))) c.pair_of-lot.ensures
    ∙ (ap (λ x. sizes (joint (clauses x s.lot 2) (clauses outer.second s.lot 2))) c.new-5.ensures.0
    ∙ (ap (λ x. sizes (joint (clauses pair s.lot 2) (clauses x s.lot 2))) c.new-5.ensures.1
    ∙ (ap (λ l. sizes (joint l (clauses inner s.lot 2))) (both s.lot 2) ∙ ap (λ l. sizes (joint (joint (own s.lot 2) (bench s bs s.lot 2)) l)) rest)))) in
    IfOk-weaker c.push_str.result _ _
    (λ u h. pairs_of s own (bench s bs) v (string_bytes c.show_facts.new.out) (string_bytes c.push_str.new.self) c.total-one.result c.total-two.result c.total-four.result w one two four h)
    (search rules)
