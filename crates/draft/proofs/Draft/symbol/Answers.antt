use Rattle.std.proofs.Common.{[], ◌∷◌, ◌++◌, vec_items, sym, refl, ap, ◌∙◌, append_assoc, arith, rules}
use Rattle.std.proofs.lemmas.List.{length-append}
use Rattle.names.specs.Spans.{words_in, word_at}
use Rattle.names.specs.Words.{names_of}
use Rattle.draft.specs.Numbering.{known}
use Rattle.names.proofs.Tables.{length_words, words_push}
use Rattle.names.proofs.Finding.{found_same, found_some, found_none, word_known, word_new}
use Rattle.draft.proofs.Draft.symbol.Goals as goal

pub returns-in-Some : goal.returns-in-Some
returns-in-Some c =
    let names = c.args.names.now in
    let self = c.args.self.now in
    let text = c.args.text.now in
    let w = word_at text c.args.span in
    let same = found_same _ w text text (names_of names) (names_of names) _ (vec_items self.fresh) c.word.ensures refl c.as_slice.ensures.value refl in
    let p = found_some w (known names text self) c.in-Some.n (sym same ∙ (sym c.place.ensures.value ∙ c.in-Some.is)) in
    record { value = sym p.0; words = sym (word_known w (known names text self) (omega arith)); kept = refl; cells = refl; fresh = search rules }

pub returns : goal.returns
returns c =
    let names = c.args.names.now in
    let self = c.args.self.now in
    let text = c.args.text.now in
    let w = word_at text c.args.span in
    let same = found_same _ w text text (names_of names) (names_of names) _ (vec_items self.fresh) c.word.ensures refl c.as_slice.ensures.value refl in
    let p = found_none w (known names text self) (sym same ∙ (sym c.place.ensures.value ∙ search rules)) in
    let a = length-append (names_of names) (words_in text (vec_items self.fresh)) in
    let m = length_words text (vec_items self.fresh) in
    let j = self.fresh.ok.0 in
    record {
      value = omega arith;
      words =
          ap (λ ss. names_of names ++ words_in text ss) c.push_reserved.ensures.items
          ∙ (ap (λ ws. names_of names ++ ws) (words_push text (vec_items self.fresh) c.args.span)
          ∙ (sym (append_assoc (names_of names) (words_in text (vec_items self.fresh)) (w ∷ [])) ∙ sym (word_new w (known names text self) p)));
      kept = refl;
      cells = refl;
      fresh = search rules;
    }
