use Rattle.std.proofs.Common.{◌+◌, ◌∷◌, sym, subst}
use Rattle.graphs.specs.Links.{up_of}
use Rattle.graphs.specs.Meaning.{Going}
use Rattle.graphs.specs.Cells.{graph}
use Rattle.unification.specs.Held.{held, count, room}
use Rattle.unification.specs.Run.{Ran}
use Rattle.unification.specs.State.{cells_in, links_in, trail_in}
use Rattle.graphs.proofs.Lists.{logged_none, logged_trans}
use Rattle.unification.proofs.Runs.{counted_in}
use Rattle.unification.proofs.solve.solve.Goals as goal

pub loop-p-init : goal.loop-p-init
loop-p-init g c = (c.requires, (λ E e. e), (λ _ a. a), logged_none (links_in c.args.links.now) (trail_in c.args.links.now))

pub loop-p-preserved : goal.loop-p-preserved
loop-p-preserved g c =
    let kind = g.S.Signature.kind c.args.signature.now in let cs = cells_in c.args.arena.now in
    let l = links_in c.loop-p.links in let s = c.pop.new.self in let p = c.in-Some.p in
    let l' = links_in c.one_turn.new.links in let s' = c.one_turn.new.pairs in
    let w = counted_in kind cs l (p ∷ held s) (count s + 1) l' (held s') (count s') (room s') c.in_ok-one_turn.field-0 c.loop-p.tally c.count_in-tally.result c.count_in-tally.ensures c.in_ok-one_turn.ensures.turned in (
      w.ready,
      (λ E e. w.kept E (subst (Going kind (graph cs) E c.loop-p.tally.equal (up_of l)) c.in-Some.ensures.held (c.loop-p.invariant.1 E e))),
      (λ d a. let o = w.orderly d in o.1 (c.loop-p.invariant.2 o.0 a)),
      logged_trans (links_in c.args.links.now) (trail_in c.args.links.now) l (trail_in c.loop-p.links) l' (trail_in c.one_turn.new.links) c.loop-p.invariant.3 c.one_turn.ensures.logged,
    )

pub returns-in_err-one_turn : goal.returns-in_err-one_turn
returns-in_err-one_turn g c =
    let kind = g.S.Signature.kind c.args.signature.now in let cs = cells_in c.args.arena.now in
    let l = links_in c.loop-p.links in let l' = links_in c.one_turn.new.links in
    record {
      logged = logged_trans (links_in c.args.links.now) (trail_in c.args.links.now) l (trail_in c.loop-p.links) l' (trail_in c.one_turn.new.links) c.loop-p.invariant.3 c.one_turn.ensures.logged;
      ran = subst (Ran kind cs (links_in c.args.links.now) (held c.args.pairs.now) l') (sym c.from_residual.ensures)
          (λ E e. c.in_err-one_turn.ensures.turned E c.loop-p.tally.equal (subst (Going kind (graph cs) E c.loop-p.tally.equal (up_of l)) c.in-Some.ensures.held (c.loop-p.invariant.1 E e)));
    }

pub returns : goal.returns
returns g c = record {
  logged = c.loop-p.invariant.3;
  ran = (
    (λ E e. subst (Going (g.S.Signature.kind c.args.signature.now) (graph (cells_in c.args.arena.now)) E c.loop-p.tally.equal (up_of (links_in c.loop-p.links))) c.in_default.ensures.held.0 (c.loop-p.invariant.1 E e)),
    c.loop-p.invariant.2,
  );
}
