use Rattle.std.proofs.Common.{◌≡◌, cond, [], ◌∷◌, get_or, codes, sym, refl, ap, ◌∙◌, rules}
use Rattle.std.proofs.lemmas.Bool.{eq-eqb, ne_eqb}
use Rattle.std.specs.Prelude.{◌==◌}
use Rattle.record_cases.specs.Shown.{blank}
use Rattle.record_cases.proofs.Showing.{shown_refused, shown_said}
use Rattle.record_cases.proofs.show_fact.Goals as goal
use Rattle.record_cases.proofs.show_fact.Goals.{then-value-eq2, else-value-eq2}

pub returns-then-is_err : goal.returns-then-is_err
returns-then-is_err g c =
    let d = c.default-cells.result in
    let e =
    shown_refused (g.S.Source.clauses c.args.source.now c.args.predicate.symbol c.args.predicate.arity) c.args.i (d ∷ d ∷ d ∷ []) c.write.new.out c.write.result refl c.write.ensures
    (sym c.is_err.ensures.value ∙ c.if-is_err.true) in
    rw e (search rules)

pub returns : goal.returns
returns g c =
    let d : c.default-cells.result ≡ blank = search rules in
    let e =
    shown_said (g.S.Source.clauses c.args.source.now c.args.predicate.symbol c.args.predicate.arity) c.args.i _ _ c.write.result (ap (λ x. x ∷ x ∷ x ∷ []) d) c.write.ensures
    (sym c.is_err.ensures.value ∙ c.if-is_err.false) in
    let k : cond ((get_or c.write.new.out 2 blank).form == 2) (codes "a") (codes "i") ≡ c.if-value-eq2.kind.now =
    elim c.if-value-eq2.branch [
      | then-value-eq2 w ↦ rw (eq-eqb _ 2 w.if-value-eq2.true) (search rules)
      | else-value-eq2 w ↦ rw (ne_eqb _ 2 w.if-value-eq2.false) (search rules)
    ] in
    rw (e, k) (search rules)
