use Rattle.std.proofs.Common.{min, false, length, ap, ◌∙◌}
use Rattle.draft.specs.declared.grammar.Due.TheVariants.{Head}
use Rattle.draft.specs.declared.reader.Form.TheVariants.{Clause}
use Rattle.draft.specs.Sketch.{sketch_of, blank}
use Rattle.draft.proofs.Readings.{outcome_state, clause_some, clause_start}
use Rattle.draft.proofs.Wholes.{clause_whole}
use Rattle.draft.proofs.Draft.clause.Goals as goal

pub returns : goal.returns
returns c =
    let text = c.args.text.now in
    let at = c.args.at in
    let u = sketch_of c.read.new.self in
    let e = c.begin.ensures ∙ ap (λ n. blank n false) c.skip_blanks.ensures.value in
    let x = outcome_state text Clause Head _ _ (min at (length text)) u c.read.result e c.read.ensures.reads in
    record {
      reads = x;
      bounds = c.read.ensures.bounds;
      some = clause_some text at u c.read.result x;
      start = clause_start text at u c.read.result x;
      spelled = clause_whole text at u c.read.result x;
    }
