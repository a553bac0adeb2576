use Rattle.std.proofs.Common.{[], ◌∷◌, ◌++◌, length, get_or, take, sym, ap, ◌∙◌, append_assoc, arith, rules}
use Rattle.std.proofs.lemmas.List.{append-nil}
use Rattle.names.specs.Spans.{words_in, word_at}
use Rattle.names.specs.Words.{names_of}
use Rattle.names.proofs.Tables.{bytes_from, words_none, words_more, words_all}
use Rattle.names.proofs.Names.add_all.Goals as goal

pub add-requires : goal.add-requires
add-requires c =
    let m = bytes_from c.args.text.now c.args.spans.now c.loop-s.s-index (record { start = 0; end = 0 }) (search rules) in
    let s = get_or c.args.spans.now c.loop-s.s-index (record { start = 0; end = 0 }) in
    let e = ap length c.word.ensures in
    record { few = omega arith; small = omega arith }

pub loop-s-init : goal.loop-s-init
loop-s-init c = (omega arith, c.requires.small, sym (ap (λ ws. names_of c.args.self.now ++ ws) (words_none c.args.text.now) ∙ append-nil _))

pub loop-s-preserved : goal.loop-s-preserved
loop-s-preserved c =
    let m = bytes_from c.args.text.now c.args.spans.now c.loop-s.s-index (record { start = 0; end = 0 }) (search rules) in
    let s = get_or c.args.spans.now c.loop-s.s-index (record { start = 0; end = 0 }) in
    let e = ap length c.word.ensures in
    let ws = words_in c.args.text.now (take c.loop-s.s-index c.args.spans.now) in (
      omega arith,
      omega arith,
      c.add.ensures.names
          ∙ (ap (λ w. names_of c.loop-s.self ++ w ∷ []) c.word.ensures
          ∙ (ap (λ ns. ns ++ word_at c.args.text.now s ∷ []) c.loop-s.invariant.2
          ∙ (append_assoc (names_of c.args.self.now) ws (_ ∷ [])
          ∙ ap (λ xs. names_of c.args.self.now ++ xs) (sym (words_more c.args.text.now c.args.spans.now c.loop-s.s-index (record { start = 0; end = 0 }) (search rules)))))),
    )

pub returns : goal.returns
returns c =
    c.loop-s.invariant.2 ∙ ap (λ ws. names_of c.args.self.now ++ ws) (words_all c.args.text.now c.args.spans.now c.loop-s.s-index (search rules))
