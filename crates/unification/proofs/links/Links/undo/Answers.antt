use Rattle.std.proofs.Common.{vec_len, arith}
use Rattle.unification.specs.State.{links_in, trail_in}
use Rattle.unification.proofs.Linked.{restored, undone}
use Rattle.unification.proofs.links.Links.undo.Goals as goal

pub invariant_of-self : goal.invariant_of-self
invariant_of-self c =
    let k = c.args.self.now in
    let e = undone k.up.len c.args.to (links_in k) (trail_in k) c.as_mut_slice.result.now c.as_slice.result.now c.unlink.new.up _ c.len.result c.min-from.result
    k.up.ok.0 c.as_mut_slice.ensures.value c.as_slice.ensures.value (omega (arith, k.trail.ok.0, c.as_slice.ensures.len)) c.min-from.ensures c.unlink.ensures in
    let w = restored (links_in k) (trail_in k) c.args.to _ (vec_len k.trail) (vec_len c.truncate.new.self) k.down k.paper k.trail.ok.0 c.truncate.ensures.len e in
    let long = k.long in let cap = c.truncate.ensures.capacity in
    record { nodes = k.nodes; down = w.down; paper = w.paper; long = omega arith }

pub returns : goal.returns
returns c =
    let k = c.args.self.now in
    record {
      links = undone k.up.len c.args.to (links_in k) (trail_in k) c.as_mut_slice.result.now c.as_slice.result.now c.unlink.new.up _ c.len.result c.min-from.result
          k.up.ok.0 c.as_mut_slice.ensures.value c.as_slice.ensures.value (omega (arith, k.trail.ok.0, c.as_slice.ensures.len)) c.min-from.ensures c.unlink.ensures;
      trail = c.truncate.ensures.items;
    }
