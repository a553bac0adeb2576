use Rattle.std.proofs.Common.{Ok, Err, sym, ap, ◌∙◌, subst}
use Rattle.std.proofs.lemmas.Result.{err_from_is_err_and}
use Rattle.line.specs.Reading.{ReadsBook, asked, no_token, no_clause, clause}
use Rattle.line.proofs.read_clauses.Goals as goal

pub returns-in_err-place : goal.returns-in_err-place
returns-in_err-place c =
    let p = err_from_is_err_and c.from_residual.result c.from_residual.ensures.1 in
    rw (p.1, p.2) (c.loop-place.invariant.1 _ _ (no_token (sym c.in_err-place.ensures)))

pub returns-in-Some : goal.returns-in-Some
returns-in-Some c = c.loop-place.invariant.1 _ _ (asked (sym c.in_ok-place.ensures ∙ ap Ok c.in-Some.is))

pub returns-in_err-at : goal.returns-in_err-at
returns-in_err-at c =
    let p = err_from_is_err_and c.from_residual-in_err-at.result c.from_residual-in_err-at.ensures.1 in
    let a = c.in_err-at.ensures.read in
    rw (p.1, p.2) (subst (λ b. ReadsBook c.args.text.now c.args.book.now 0 (Err c.in_err-at.field-0.0) b) (sym a.1)
    (c.loop-place.invariant.1 _ _ (no_clause (sym c.in_ok-place.ensures ∙ ap Ok c.in_default.is) a.0)))

pub loop-place-preserved : goal.loop-place-preserved
loop-place-preserved c =
    let a = c.in_ok-at.ensures in (
      a.bounds.1,
      λ r b rest. c.loop-place.invariant.1 r b (clause (sym c.in_ok-place.ensures ∙ ap Ok c.in_default.is) a.read rest),
    )
