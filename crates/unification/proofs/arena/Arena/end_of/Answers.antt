use Rattle.std.proofs.Common.{◌≡◌, ℕ, ◌+◌, ◌-◌, ◌<◌, ◌≤◌, List, length, get_or, drop, ap, ◌∙◌, arith}
use Rattle.terms.specs.declared.Cell.{Cell}
use Rattle.graphs.specs.Cells.{blank, span, after}
use Rattle.unification.specs.State.{cells_in}
use Rattle.graphs.proofs.CellLaws.{span_more, span_zero, span_past, after_le, after_past}
use Rattle.unification.proofs.arena.Arena.end_of.Goals as goal

pub loop-need-preserved : goal.loop-need-preserved
loop-need-preserved c =
    let cs = cells_in c.args.self.now in let ok = c.args.self.now.cells.ok.0 in let len = c.as_slice-cells.ensures.len in
    let at = c.loop-need.at in let need = c.loop-need.need in
    let a = ap (λ (xs : List Cell). (get_or xs at blank).arity) c.as_slice-cells.ensures.value in
    let s = ap (λ k. span (drop (at + 1) cs) (need - 1 + k)) a in
    let m = span_more cs at need (omega arith) (omega arith) in
    (omega (arith, c.loop-need.invariant.0), omega (arith, c.loop-need.invariant.1))

ended : (cs : List Cell) (p r : ℕ) → r ≡ after cs p → (p < length cs → p < r) × (p ≤ length cs → r ≤ length cs)
ended cs p r e = ((λ h. let a = after_past cs p h in omega arith), (λ h. let a = after_le cs p (length cs) h (omega arith) in omega arith))

pub returns-else-at-cells : goal.returns-else-at-cells
returns-else-at-cells c =
    let cs = cells_in c.args.self.now in let ok = c.args.self.now.cells.ok.0 in let len = c.as_slice-cells.ensures.len in
    let z = span_past cs c.loop-need.at c.loop-need.need (omega arith) in
    let e : c.loop-need.at ≡ after cs c.args.place = omega (arith, c.loop-need.invariant.0) in
    let w = ended cs c.args.place c.loop-need.at e in
    record { value = e; past = w.0; within = w.1 }

pub returns-after-loop-need : goal.returns-after-loop-need
returns-after-loop-need c =
    let cs = cells_in c.args.self.now in
    let n : c.loop-need.need ≡ 0 = omega arith in
    let z = ap (span (drop c.loop-need.at cs)) n ∙ span_zero (drop c.loop-need.at cs) in
    let e : c.loop-need.at ≡ after cs c.args.place = omega (arith, c.loop-need.invariant.0) in
    let w = ended cs c.args.place c.loop-need.at e in
    record { value = e; past = w.0; within = w.1 }
