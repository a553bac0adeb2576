use Rattle.std.proofs.Common.{◌+◌, drop, sym, ap, ◌∙◌, arith}
use Rattle.terms.specs.Shape.{goals}
use Rattle.terms.proofs.Laws.{goals_goal, goals_no_goal, goals_term, goals_no_term, goals_due, goals_end}
use Rattle.terms.proofs.check.goals_by_cells.Goals as goal
use Rattle.terms.proofs.check.goals_by_cells.Goals.{then-due-eq0+else-not-is_goal_cell, else-due-eq0+else-not-is_term_cell}

pub returns-then-due-cells : goal.returns-then-due-cells
returns-then-due-cells c = sym (goals_due c.loop-i.n c.loop-i.due c.loop-i.i c.args.cells.now (omega arith)) ∙ c.loop-i.invariant.0

pub returns-then-not-is_goal_cell : goal.returns-then-not-is_goal_cell
returns-then-not-is_goal_cell c =
    sym (ap (λ d. goals c.loop-i.n d (drop c.loop-i.i c.args.cells.now)) c.if-due-eq0.true
    ∙ goals_no_goal c.loop-i.n c.loop-i.i c.args.cells.now _ (omega arith) (sym c.is_goal_cell.ensures ∙ c.if-not-is_goal_cell.true))
    ∙ c.loop-i.invariant.0

pub returns-then-not-is_term_cell : goal.returns-then-not-is_term_cell
returns-then-not-is_term_cell c =
    sym (goals_no_term c.loop-i.n c.loop-i.due c.loop-i.i c.args.cells.now _ (omega arith) (omega arith) (sym c.is_term_cell.ensures ∙ c.if-not-is_term_cell.true))
    ∙ c.loop-i.invariant.0

pub loop-i-preserved : goal.loop-i-preserved
loop-i-preserved c =
    let cs = c.args.cells.now in let i = c.loop-i.i in let n = c.loop-i.n in
    elim c.if-due-eq0.branch [
      | then-due-eq0+else-not-is_goal_cell w ↦ (
        ap (λ m. goals m c.if-due-eq0.due (drop (i + 1) cs)) w.n-is
            ∙ (ap (λ d. goals (n + 1) d (drop (i + 1) cs)) w.due-is
            ∙ (sym (ap (λ d. goals n d (drop i cs)) w.if-due-eq0.true ∙ goals_goal n i cs _ (omega arith) (sym w.is_goal_cell.ensures ∙ w.if-not-is_goal_cell.false)) ∙ c.loop-i.invariant.0)),
        omega (arith, w.n-is),
      )
      | else-due-eq0+else-not-is_term_cell w ↦ (
        ap (λ m. goals m c.if-due-eq0.due (drop (i + 1) cs)) w.n-is
            ∙ (ap (λ d. goals n d (drop (i + 1) cs)) w.due-is
            ∙ (sym (goals_term n c.loop-i.due i cs _ (let z = w.if-due-eq0.false in omega arith) (omega arith) (sym w.is_term_cell.ensures ∙ w.if-not-is_term_cell.false)) ∙ c.loop-i.invariant.0)),
        omega (arith, w.n-is),
      )
    ]

pub returns-then-due-eq0-2 : goal.returns-then-due-eq0-2
returns-then-due-eq0-2 c = sym (goals_end c.loop-i.n c.loop-i.due c.loop-i.i c.args.cells.now (omega arith) (omega arith)) ∙ c.loop-i.invariant.0

pub returns-else-due-eq0-2 : goal.returns-else-due-eq0-2
returns-else-due-eq0-2 c = sym (goals_due c.loop-i.n c.loop-i.due c.loop-i.i c.args.cells.now (omega arith)) ∙ c.loop-i.invariant.0
