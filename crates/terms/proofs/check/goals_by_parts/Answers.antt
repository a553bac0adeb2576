use Rattle.std.proofs.Common.{◌≡◌, suc, ◌+◌, ◌∷◌, length, sym, ap, ◌∙◌, arith, rules}
use Rattle.terms.specs.Shape.{goals}
use Rattle.terms.proofs.Laws.{goals_first, goals_read, goals_unread, skip_shorter}
use Rattle.terms.proofs.check.goals_by_parts.Goals as goal

pub returns-in_err-rest : goal.returns-in_err-rest
returns-in_err-rest c =
    let n = c.loop-c.n in
    let first = c.in-Some.c.now in
    let e : c.loop-c.rest.now ≡ first ∷ c.in-Some.arguments.now = search rules in
    let h = ap (goals n 0) e ∙ goals_first n first c.in-Some.arguments.now (sym c.is_goal_cell.ensures ∙ c.if-not-is_goal_cell.false) in
    c.from_residual.ensures ∙ (sym (h ∙ goals_unread (n + 1) first.arity c.in-Some.arguments.now (search rules)) ∙ c.loop-c.invariant.0)

pub loop-c-smaller : goal.loop-c-smaller
loop-c-smaller c =
    let e : c.loop-c.rest.now ≡ c.in-Some.c.now ∷ c.in-Some.arguments.now = search rules in
    let h = skip_shorter c.in-Some.c.now.arity c.in-Some.arguments.now c.in_ok-rest.rest.now (search rules) in
    let l : length c.loop-c.rest.now ≡ suc (length c.in-Some.arguments.now) = ap length e in
    omega arith

pub loop-c-preserved : goal.loop-c-preserved
loop-c-preserved c =
    let n = c.loop-c.n in
    let first = c.in-Some.c.now in
    let e : c.loop-c.rest.now ≡ first ∷ c.in-Some.arguments.now = search rules in
    let h = ap (goals n 0) e ∙ goals_first n first c.in-Some.arguments.now (sym c.is_goal_cell.ensures ∙ c.if-not-is_goal_cell.false) in
    let s = skip_shorter first.arity c.in-Some.arguments.now c.in_ok-rest.rest.now (search rules) in
    let l : length c.loop-c.rest.now ≡ suc (length c.in-Some.arguments.now) = ap length e in
    (sym (h ∙ goals_read (n + 1) first.arity c.in-Some.arguments.now c.in_ok-rest.rest.now (search rules)) ∙ c.loop-c.invariant.0, omega arith)
