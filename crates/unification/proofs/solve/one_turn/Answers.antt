use Rattle.std.proofs.Common.{sym, ◌∙◌}
use Rattle.unification.specs.Held.{held, count, room}
use Rattle.unification.specs.State.{cells_in, links_in, trail_in}
use Rattle.graphs.proofs.Lists.{logged_none}
use Rattle.unification.proofs.Runs.{same_went}
use Rattle.unification.proofs.solve.one_turn.Goals as goal

pub returns-then-x-y : goal.returns-then-x-y
returns-then-x-y g c =
    let k = c.args.links.now in
    record {
      logged = logged_none (links_in k) (trail_in k);
      turned = (
        same_went (cells_in c.args.arena.now) (links_in k) c.args.p (held c.args.pairs.now) (count c.args.pairs.now) (room c.args.pairs.now) c.requires (g.S.Signature.kind c.args.signature.now)
            (sym c.find-x.ensures.value ∙ (c.if-x-y.true ∙ c.find-y.ensures.value)),
        λ a. a,
      );
    }
