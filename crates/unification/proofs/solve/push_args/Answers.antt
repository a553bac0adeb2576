use Rattle.std.proofs.Common.{◌≡◌, ℕ, ◌+◌, ◌-◌, ◌<◌, List, refl, ◌∙◌, arith}
use Rattle.terms.specs.declared.Cell.{Cell}
use Rattle.graphs.specs.declared.Pair.{Pair}
use Rattle.graphs.specs.Graph.{onto}
use Rattle.graphs.specs.Cells.{arguments, after}
use Rattle.unification.specs.State.{cells_in}
use Rattle.unification.specs.Held.{held}
use Rattle.graphs.proofs.CellLaws.{arguments_more}
use Rattle.unification.proofs.solve.push_args.Goals as goal

-- after the last argument no place matters
anywhere : (cs : List Cell) (k x y x' y' : ℕ) (st : List Pair) → k ≡ 0 → onto (arguments cs k x) (arguments cs k y) st ≡ onto (arguments cs k x') (arguments cs k y') st
anywhere cs k x y x' y' st e = rw e refl

pub loop-i-preserved : goal.loop-i-preserved
loop-i-preserved c =
    let cs = cells_in c.args.arena.now in let i = c.loop-i.i in let n = c.args.n in
    let x = c.loop-i.x in let y = c.loop-i.y in
    let lt : i < n = omega arith in
    let m = arguments_more cs n i (held c.loop-i.pairs) _ x y lt c.loop-i.invariant.0 in
    let nx = c.node.ensures.value in let ny = c.node-in-loop-i.ensures.value in
    let h = c.put.ensures.held in (
      elim c.if-i-n.branch [
        | goal.then-i-n w ↦
            let ax = w.x-is ∙ w.end_of-x.ensures.value in let ay = w.y-is ∙ w.end_of-y.ensures.value in rw (h, nx, ny, ax, ay) m
        | goal.else-i-n w ↦
            anywhere cs (n - (i + 1)) c.if-i-n.x c.if-i-n.y (after cs x) (after cs y) (held c.put.new.self) (let no = w.if-i-n.false in omega arith) ∙ rw (h, nx, ny) m
      ],
      omega arith,
      omega arith,
    )
