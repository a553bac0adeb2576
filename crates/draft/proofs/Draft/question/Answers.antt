use Rattle.std.proofs.Common.{◌≡◌, sym, subst, rules}
use Rattle.lexis.specs.declared.token.Kind.TheVariants.{Query}
use Rattle.std.proofs.lemmas.Result.{err_from_is_err_and, MatchResult-weaker}
use Rattle.draft.specs.Sketch.{QuestionRefused}
use Rattle.draft.specs.Sketch.QuestionRefused.{no_token, no_query, refused}
use Rattle.draft.proofs.Readings.{cases_err}
use Rattle.draft.proofs.Draft.question.Goals as goal

pub returns-in_err-token : goal.returns-in_err-token
returns-in_err-token c =
    let p = err_from_is_err_and c.from_residual.result c.from_residual.ensures.1 in
    cases_err _ (QuestionRefused c.args.text.now c.args.at) c.from_residual.result p.0 _ p.1 p.2 (no_token (sym c.in_err-token.ensures.value))

pub returns-then-ne : goal.returns-then-ne
returns-then-ne c = subst (QuestionRefused c.args.text.now c.args.at) (sym c.at.ensures) (no_query c.in_ok-token.token (sym c.in_ok-token.ensures.value) (λ h. search rules))

pub returns : goal.returns
returns c =
    let mark : c.in_ok-token.token.kind ≡ Query = search rules in
    MatchResult-weaker c.goals.result c.goals.ensures
    (λ _ g. record { query = c.in_ok-token.token; first = sym c.in_ok-token.ensures.value; mark = mark; goals = g })
    (λ e g. refused c.in_ok-token.token (sym c.in_ok-token.ensures.value) mark g)
