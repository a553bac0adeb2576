use Rattle.std.proofs.Common.{sym, ◌∙◌, arith}
use Rattle.terms.proofs.Laws.{skip_no_term, skip_due}
use Rattle.terms.proofs.check.after_by_cells.Goals as goal
use Rattle.terms.proofs.check.after_by_cells.Goals.{then-due-cells-via-then-due-cells, then-due-cells-via-else-due-cells+then-not-is_term_cell}

pub returns-then-due-cells : goal.returns-then-due-cells
returns-then-due-cells c =
    sym c.loop-i.invariant.0
    ∙ elim c.then-due-cells.branch [
      | then-due-cells-via-then-due-cells w ↦ skip_due c.loop-i.due c.loop-i.i c.args.cells.now (let h = w.if-due-cells.true in omega arith)
      | then-due-cells-via-else-due-cells+then-not-is_term_cell w ↦
          skip_no_term c.loop-i.due c.loop-i.i c.args.cells.now _ c.loop-i.invariant.1 (omega arith) (sym w.is_term_cell.ensures ∙ w.if-not-is_term_cell.true)
    ]
