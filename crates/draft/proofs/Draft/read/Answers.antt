use Rattle.std.proofs.Common.{min, length, Ok, sym, refl, ap, ◌∙◌, rules}
use Rattle.std.proofs.lemmas.Result.{err_from_is_err_and}
use Rattle.draft.specs.Sketch.{sketch_of, Reads}
use Rattle.draft.specs.Sketch.Reads.{no_token, misfit, last, more}
use Rattle.draft.proofs.Readings.{reads_from, outcome_err, made_err}
use Rattle.draft.proofs.Draft.read.Goals as goal

pub returns-in_err-token : goal.returns-in_err-token
returns-in_err-token c =
    let p = err_from_is_err_and c.from_residual.result c.from_residual.ensures.1 in
    let q = c.in_err-token.ensures.value in
    record {
      reads =
          outcome_err (Reads c.args.text.now c.args.form c.args.first (sketch_of c.args.self.now) (min c.args.at (length c.args.text.now))) (sketch_of c.loop-token.self) c.from_residual.result p.0 _ p.1 p.2
          (reads_from c.args.text.now c.args.form c.args.first (sketch_of c.args.self.now) c.min-place.result _ _ c.min-place.ensures
          (c.loop-token.invariant.2 _ (no_token (sym q))));
      bounds = made_err _ c.from_residual.result p.0 p.1;
    }

pub returns-in_err-due : goal.returns-in_err-due
returns-in_err-due c =
    let p = err_from_is_err_and c.from_residual-in_err-due.result c.from_residual-in_err-due.ensures.1 in
    let t = c.in_ok-token.ensures.value in
    let q = c.in_err-due.ensures.taken in
    record {
      reads =
          outcome_err (Reads c.args.text.now c.args.form c.args.first (sketch_of c.args.self.now) (min c.args.at (length c.args.text.now))) (sketch_of c.take.new.self) c.from_residual-in_err-due.result p.0 _ p.1 p.2
          (reads_from c.args.text.now c.args.form c.args.first (sketch_of c.args.self.now) c.min-place.result _ _ c.min-place.ensures
          (c.loop-token.invariant.2 _ (misfit c.in_ok-token.token (sym t) q)));
      bounds = made_err _ c.from_residual-in_err-due.result p.0 p.1;
    }

pub returns-then-eq : goal.returns-then-eq
returns-then-eq c =
    let t = c.in_ok-token.ensures.value in
    let q = c.in_ok-due.ensures.taken in
    record {
      reads =
          reads_from c.args.text.now c.args.form c.args.first (sketch_of c.args.self.now) c.min-place.result _ _ c.min-place.ensures
          (c.loop-token.invariant.2 _ (last c.in_ok-token.token (sym t) (q ∙ ap (λ d. Ok (d, sketch_of c.take.new.self)) (search rules)) refl));
      bounds = search rules;
    }

pub loop-token-preserved : goal.loop-token-preserved
loop-token-preserved c =
    let t = c.in_ok-token.ensures.value in
    let q = c.in_ok-due.ensures.taken in
    (search rules, search rules, λ r x. c.loop-token.invariant.2 r (more c.in_ok-token.token (sym t) q (λ h. search rules) x))
