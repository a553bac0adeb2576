use Rattle.std.proofs.Common.{◌≡◌, ◌++◌, vec_items, sym, ap, ◌∙◌, arith}
use Rattle.std.proofs.lemmas.List.{append-nil}
use Rattle.draft.specs.Sketch.{Sketch, no_cell}
use Rattle.names.specs.Spans.{words_in}
use Rattle.names.specs.Words.{names_of}
use Rattle.draft.specs.Numbering.{numbered_all, words_after, known, no_span}
use Rattle.names.proofs.Tables.{words_none}
use Rattle.draft.proofs.Places.{numbered_step, after_step, numbered_all_lem, after_all}
use Rattle.draft.proofs.Draft.number.Goals as goal

pub loop-i-preserved : goal.loop-i-preserved
loop-i-preserved c =
    let s = c.loop-i.self in
    let t = c.number_cell.new.self in
    let names = c.args.names.now in
    let text = c.args.text.now in
    let e = c.number_cell.ensures.sketch in
    let ec = ap (λ (x : Sketch). x.cells) e in
    let es = ap (λ (x : Sketch). x.spans) e in
    let k = s.cells.ok.0 in
    let j = s.spans.ok.0 in
    let l = s.level in (
      omega (arith, c.number_cell.ensures.fresh),
      c.number_cell.ensures.cells ∙ c.loop-i.invariant.1,
      ap (λ (x : Sketch). x.start) e ∙ c.loop-i.invariant.2,
      numbered_step text (known names text s) (known names text t) (vec_items s.cells) (vec_items t.cells) (vec_items s.spans) (vec_items t.spans) c.loop-i.i no_cell no_span
          (omega arith) (omega arith) ec es c.number_cell.ensures.words
          ∙ c.loop-i.invariant.3,
      after_step text (known names text s) (known names text t) (vec_items s.cells) (vec_items t.cells) (vec_items s.spans) (vec_items t.spans) c.loop-i.i no_cell no_span _
          (omega arith) (omega arith) ec es c.number_cell.ensures.words
          ∙ c.loop-i.invariant.4,
    )

pub returns : goal.returns
returns c =
    let s = c.loop-i.self in
    let d = c.args.self.now in
    let names = c.args.names.now in
    let text = c.args.text.now in
    let k = s.cells.ok.0 in
    let none : names_of names ++ words_in text (vec_items c.clear.new.self) ≡ names_of names =
    ap (λ ss. names_of names ++ words_in text ss) c.clear.ensures.items ∙ (ap (λ ws. names_of names ++ ws) (words_none text) ∙ append-nil (names_of names)) in
    record {
      cells =
          sym (numbered_all_lem text (known names text s) (vec_items s.cells) (vec_items s.spans) c.loop-i.i (omega arith))
          ∙ (c.loop-i.invariant.3 ∙ ap (λ ws. numbered_all text ws (vec_items d.cells) (vec_items d.spans)) none);
      words =
          sym (after_all text (known names text s) (vec_items s.cells) (vec_items s.spans) c.loop-i.i (omega arith))
          ∙ (c.loop-i.invariant.4 ∙ ap (λ ws. words_after text ws (vec_items d.cells) (vec_items d.spans)) none);
      start = c.loop-i.invariant.2;
      len = c.loop-i.invariant.1;
    }
