use Rattle.std.proofs.Common.{arith, get_or, set, vec_items, sym, refl, ap, ◌∙◌, rules}
use Rattle.std.proofs.lemmas.List.{set-get_or, get_or_default}
use Rattle.std.proofs.lemmas.Bool.{cond-false}
use Rattle.draft.specs.Sketch.{recelled, sketch_of, no_cell}
use Rattle.draft.specs.Numbering.{is_named}
use Rattle.draft.proofs.Draft.number_cell.Goals as goal

pub returns-else-is_named : goal.returns-else-is_named
returns-else-is_named c =
    let cells = vec_items c.args.self.now.cells in
    let x = get_or cells c.args.i no_cell in
    let k = c.args.self.now.cells.ok.0 in
    let v = get_or_default cells c.args.i no_cell c.index-cell.result.now (omega arith) ∙ sym c.index-cell.ensures in
    let e = ap is_named v ∙ (sym c.is_named.ensures ∙ c.if-is_named.false) in
    record {
      words = sym (cond-false (is_named x) _ _ e);
      sketch = sym (ap (λ cs. recelled cs (sketch_of c.args.self.now)) (ap (λ y. set cells c.args.i y) (cond-false (is_named x) _ x e) ∙ set-get_or cells c.args.i no_cell));
      cells = refl;
      fresh = search rules;
    }
