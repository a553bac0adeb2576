use Rattle.std.proofs.Common.{◌∙◌, sym, arith, rules, vec_items}
use Rattle.names.specs.Spans.{words_in}
use Rattle.names.specs.Words.{names_of}
use Rattle.names.proofs.Tables.{length_words}
use Rattle.names.proofs.Finding.{found_words, found_left, found_right, found_neither}
use Rattle.names.proofs.Names.place.Goals as goal

pub returns-in-Some-clause-value : goal.returns-in-Some-clause-value
returns-in-Some-clause-value c =
    let found = found_words c.args.sought.now _ _ _ _ c.place_in.result c.place_in.ensures.value c.as_slice.ensures.value c.as_slice-2.ensures.value in
    found_left c.args.sought.now (names_of c.args.self.now) (words_in c.args.text.now c.args.spans.now) c.in-Some.n (found ∙ c.in-Some.is)

pub returns-in_ok-place_in-in-None-clause-value : goal.returns-in_ok-place_in-in-None-clause-value
returns-in_ok-place_in-in-None-clause-value c =
    let n = c.args.self.now in
    let l = length_words (vec_items n.bytes) (vec_items n.spans) in
    let k = n.spans.ok.0 in
    let found = found_words c.args.sought.now _ _ _ _ c.place_in.result c.place_in.ensures.value c.as_slice.ensures.value c.as_slice-2.ensures.value in
    found_right c.args.sought.now (names_of n) (words_in c.args.text.now c.args.spans.now) c.len.result _ (omega arith) (found ∙ c.in-None.is)
    (sym c.place_in-in-None.ensures.value ∙ c.in_ok-place_in-in-None.was)

pub returns-in_err-place_in-in-None-clause-value : goal.returns-in_err-place_in-in-None-clause-value
returns-in_err-place_in-in-None-clause-value c =
    let found = found_words c.args.sought.now _ _ _ _ c.place_in.result c.place_in.ensures.value c.as_slice.ensures.value c.as_slice-2.ensures.value in
    let none = found_neither c.args.sought.now (names_of c.args.self.now) (words_in c.args.text.now c.args.spans.now) (found ∙ c.in-None.is)
    (sym c.place_in-in-None.ensures.value ∙ c.in_err-place_in-in-None.was) in
    search rules
