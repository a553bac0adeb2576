use Rattle.std.proofs.Common.{arith}
use Rattle.unification.specs.Held.{held}
use Rattle.unification.specs.State.{cells_in}
use Rattle.unification.proofs.Several.{stacked_more, stacked_end}
use Rattle.unification.proofs.bindings.several.push_all.Goals as goal

pub loop-e-preserved : goal.loop-e-preserved
loop-e-preserved c =
    let m = stacked_more (cells_in c.args.arena.now) c.args.equations.now c.loop-e.e-index (held c.loop-e.pairs) _ (omega arith) c.loop-e.invariant.0 in
    let x = c.node.ensures.value in let y = c.node-in-loop-e.ensures.value in let h = c.put.ensures.held in
    (rw (h, x, y) m, omega arith, omega arith)

pub returns : goal.returns
returns c = record {
  held = stacked_end (cells_in c.args.arena.now) c.args.equations.now c.loop-e.e-index (held c.loop-e.pairs) _ (omega arith) c.loop-e.invariant.0;
  count = omega arith;
  room = c.loop-e.invariant.2;
}
