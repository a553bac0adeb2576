use Rattle.std.proofs.Common.{set, vec_len, sym, subst, arith}
use Rattle.graphs.specs.Links.{Logged}
use Rattle.graphs.proofs.Lists.{logged_link, logged_room}
use Rattle.unification.specs.State.{links_in, trail_in}
use Rattle.unification.proofs.Linked.{added}
use Rattle.unification.proofs.links.Links.link.Goals as goal

pub push_reserved-requires : goal.push_reserved-requires
push_reserved-requires c =
    let k = c.args.self.now in
    let n = logged_room (links_in k) (vec_len k.trail) 2624 c.args.r c.args.q k.paper c.requires.inside c.requires.top c.requires.above in
    let h = k.long in omega arith

pub invariant_of-self : goal.invariant_of-self
invariant_of-self c =
    let k = c.args.self.now in
    let w = added (links_in k) c.args.r c.args.q (vec_len k.trail) _ c.requires.inside c.requires.top c.requires.above k.down k.paper c.push_reserved.ensures.len in
    let long = k.long in let cap = c.push_reserved.ensures.capacity in
    record { nodes = k.nodes; down = w.down; paper = w.paper; long = omega arith }

pub returns-clause-logged : goal.returns-clause-logged
returns-clause-logged c =
    let k = c.args.self.now in
    subst (λ t. Logged (links_in k) (trail_in k) (set (links_in k) c.args.r c.args.q) t) (sym c.push_reserved.ensures.items)
    (logged_link (links_in k) (trail_in k) c.args.r c.args.q c.requires.inside c.requires.top c.requires.above)
