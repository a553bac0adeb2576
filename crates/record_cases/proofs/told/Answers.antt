use Rattle.std.proofs.Common.{◌++◌, ap, ◌∙◌}
use Rattle.std.specs.Prelude.{string_bytes}
use Rattle.clauses.specs.declared.Predicate.{Predicate}
use Rattle.records.specs.Meaning.{record_clauses}
use Rattle.record_cases.specs.Shown.{facts_shown}
use Rattle.record_cases.proofs.Telling.{bench_of, told_of}
use Rattle.record_cases.proofs.told.Goals as goal

pub returns : goal.returns
returns c =
    let s = c.args.symbols in
    let own = record_clauses c.in_ok-records.records in
    let v = string_bytes c.in_ok-out.out in
    let w = string_bytes c.show_facts.new.out in
    let x = string_bytes c.show_facts-2.new.out in
    told_of s c.args.bytes.now own (bench_of s c.args.bytes.now c.in_ok-records.records c.in_ok-records.ensures) v w x (string_bytes c.show_facts-3.new.out) (string_bytes c.show_pairs.new.out) c.in_ok-out.ensures
    (c.in_ok-show_facts.ensures ∙ ap (λ (q : Predicate). v ++ facts_shown (own q.symbol q.arity)) c.pair_of.ensures)
    (c.in_ok-show_facts-2.ensures ∙ ap (λ (q : Predicate). w ++ facts_shown (own q.symbol q.arity)) c.pair_of-2.ensures)
    (c.in_ok-show_facts-3.ensures ∙ ap (λ (q : Predicate). x ++ facts_shown (own q.symbol q.arity)) c.pair_of-3.ensures)
    c.in_ok-show_pairs.ensures
