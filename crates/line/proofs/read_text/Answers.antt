use Rattle.std.proofs.Common.{length, sym, ◌∙◌}
use Rattle.std.proofs.lemmas.Bool.{ltb-true, ltb-false}
use Rattle.std.proofs.lemmas.Result.{err_from_is_err_and}
use Rattle.line.specs.Reading.{too_long, no_book, no_question, question}
use Rattle.line.proofs.read_text.Goals as goal

pub returns-then-is_too_long : goal.returns-then-is_too_long
returns-then-is_too_long c = rw c.at.ensures (too_long (ltb-true 8192 (length c.args.text.now) (sym c.is_too_long.ensures ∙ c.if-is_too_long.true)))

pub returns-in_err-place : goal.returns-in_err-place
returns-in_err-place c =
    let p = err_from_is_err_and c.from_residual.result c.from_residual.ensures.1 in
    rw (p.1, p.2) (no_book (ltb-false 8192 (length c.args.text.now) (sym c.is_too_long.ensures ∙ c.if-is_too_long.false)) c.in_err-place.ensures)

pub returns-in_err-question : goal.returns-in_err-question
returns-in_err-question c =
    let p = err_from_is_err_and c.from_residual-in_err-question.result c.from_residual-in_err-question.ensures.1 in
    rw (p.1, p.2) (no_question (ltb-false 8192 (length c.args.text.now) (sym c.is_too_long.ensures ∙ c.if-is_too_long.false)) c.in_ok-place.ensures c.in_err-question.ensures)

pub returns : goal.returns
returns c =
    question (ltb-false 8192 (length c.args.text.now) (sym c.is_too_long.ensures ∙ c.if-is_too_long.false)) c.in_ok-place.ensures (record { clauses = c.seal-sealed.ensures.clauses; names = c.seal-sealed.ensures.names }) c.in_ok-question.ensures
