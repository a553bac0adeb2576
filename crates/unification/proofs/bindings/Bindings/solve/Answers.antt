use Rattle.std.proofs.Common.{drop, ap, ◌∙◌}
use Rattle.graphs.specs.Links.{restore}
use Rattle.unification.specs.Held.{held}
use Rattle.unification.specs.State.{cells_of, links_of, links_in, trail_in}
use Rattle.unification.proofs.Runs.{few_cells}
use Rattle.unification.proofs.Settled.{lost_tells, cyclic_tells, settled_tells, settled_leads}
use Rattle.unification.proofs.bindings.Bindings.solve.Goals as goal

pub returns-in_default-clause-tells : goal.returns-in_default-clause-tells
returns-in_default-clause-tells g c =
    let kind = g.S.Signature.kind c.args.signature.now in let b = c.args.self.now in
    lost_tells kind (cells_of b) (few_cells b.arena) (links_of b) (held c.args.pairs.now) (links_in c.solve.new.links) c.in_default.ensures.ran

pub returns-then-not-stays_acyclic-clause-tells : goal.returns-then-not-stays_acyclic-clause-tells
returns-then-not-stays_acyclic-clause-tells g c =
    let kind = g.S.Signature.kind c.args.signature.now in let b = c.args.self.now in
    cyclic_tells kind (cells_of b) (few_cells b.arena) (links_of b) (held c.args.pairs.now) (links_in c.solve.new.links) c.in-Some.tally c.in-Some.ensures.ran c.linked_since-linked.result.now c.if-not-stays_acyclic.ensures

pub returns-clause-tells : goal.returns-clause-tells
returns-clause-tells g c =
    let kind = g.S.Signature.kind c.args.signature.now in let b = c.args.self.now in
    let back = ap (restore (links_in c.solve.new.links)) (c.linked_since-linked.ensures ∙ ap (λ k. drop k (trail_in c.solve.new.links)) c.len-before.ensures) ∙ c.solve.ensures.logged.back in
    settled_tells kind (cells_of b) (few_cells b.arena) (links_of b) (held c.args.pairs.now) (links_in c.solve.new.links) c.in-Some.tally c.in-Some.ensures.ran c.linked_since-linked.result.now back c.if-not-stays_acyclic.ensures c.outcome_of.result c.outcome_of.ensures

pub returns-clause-leads : goal.returns-clause-leads
returns-clause-leads g c =
    let kind = g.S.Signature.kind c.args.signature.now in let b = c.args.self.now in
    let back = ap (restore (links_in c.solve.new.links)) (c.linked_since-linked.ensures ∙ ap (λ k. drop k (trail_in c.solve.new.links)) c.len-before.ensures) ∙ c.solve.ensures.logged.back in
    settled_leads kind (cells_of b) (few_cells b.arena) (links_of b) (held c.args.pairs.now) (links_in c.solve.new.links) c.in-Some.tally c.in-Some.ensures.ran c.linked_since-linked.result.now back c.if-not-stays_acyclic.ensures c.outcome_of.result c.outcome_of.ensures
