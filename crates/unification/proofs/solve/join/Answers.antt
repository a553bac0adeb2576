use Rattle.std.proofs.Common.{◌+◌, ◌∷◌, Some, sym, ◌∙◌, subst}
use Rattle.unification.specs.Held.{held, count, room}
use Rattle.unification.specs.declared.solve.Meet.TheVariants.{Args}
use Rattle.unification.specs.Run.{Meets, Turned}
use Rattle.unification.specs.State.{cells_in, links_in, trail_in}
use Rattle.graphs.proofs.Lists.{logged_none}
use Rattle.unification.proofs.Runs.{laid, join_bind, join_same, join_unequal, join_clash, join_args, room_args, plain_link}
use Rattle.unification.proofs.solve.join.Goals as goal

pub push_args-requires : goal.push_args-requires
push_args-requires g c =
    let cs = cells_in c.args.arena.now in let k = c.args.links.now in let given = laid c.args.arena.now k in
    let a : Meets (g.S.Signature.kind c.args.signature.now) cs c.args.r c.args.q (Some (Args c.in-Args.n)) = subst (λ m. Meets (g.S.Signature.kind c.args.signature.now) cs c.args.r c.args.q (Some m)) c.in-Args.is c.in_ok-compare_roots.ensures in
    room_args cs (links_in k) (held c.args.pairs.now) (count c.args.pairs.now) (room c.args.pairs.now) c.args.r c.args.q given c.requires.ready c.requires.above c.requires.inside c.requires.top a.0 c.in-Args.n a.1.0

pub returns-in_err-compare_roots : goal.returns-in_err-compare_roots
returns-in_err-compare_roots g c =
    let cs = cells_in c.args.arena.now in let k = c.args.links.now in let given = laid c.args.arena.now k in
    record {
      logged = logged_none (links_in k) (trail_in k);
      turned = λ p tie left right.
          subst (Turned (g.S.Signature.kind c.args.signature.now) cs (links_in k) (p ∷ held c.args.pairs.now) (count c.args.pairs.now + 1) (links_in k) (held c.args.pairs.now) (count c.args.pairs.now) (room c.args.pairs.now)) (sym c.from_residual.ensures)
          (join_clash cs (links_in k) (held c.args.pairs.now) (count c.args.pairs.now) (room c.args.pairs.now) c.args.r c.args.q given c.requires.ready c.requires.above c.requires.inside c.requires.top p tie left right (g.S.Signature.kind c.args.signature.now) c.in_err-compare_roots.ensures);
    }

pub returns-then-is_function : goal.returns-then-is_function
returns-then-is_function g c =
    let cs = cells_in c.args.arena.now in let k = c.args.links.now in let given = laid c.args.arena.now k in
    record {
      logged = c.link.ensures.logged;
      turned = λ p tie left right.
          join_bind cs (links_in k) (held c.args.pairs.now) (count c.args.pairs.now) (room c.args.pairs.now) c.args.r c.args.q given c.requires.ready c.requires.above c.requires.inside c.requires.top p tie left right (g.S.Signature.kind c.args.signature.now) (subst (λ m. Meets (g.S.Signature.kind c.args.signature.now) cs c.args.r c.args.q (Some m)) c.in-Bind.is c.in_ok-compare_roots.ensures) (links_in c.link.new.self) c.link.ensures.linked;
    }

pub returns-else-is_function : goal.returns-else-is_function
returns-else-is_function g c =
    let cs = cells_in c.args.arena.now in let k = c.args.links.now in let given = laid c.args.arena.now k in
    record {
      logged = c.link.ensures.logged;
      turned = λ p tie left right. (
        join_bind cs (links_in k) (held c.args.pairs.now) (count c.args.pairs.now) (room c.args.pairs.now) c.args.r c.args.q given c.requires.ready c.requires.above c.requires.inside c.requires.top p tie left right (g.S.Signature.kind c.args.signature.now) (subst (λ m. Meets (g.S.Signature.kind c.args.signature.now) cs c.args.r c.args.q (Some m)) c.in-Bind.is c.in_ok-compare_roots.ensures) (links_in c.link.new.self) c.link.ensures.linked,
        plain_link cs (links_in k) (held c.args.pairs.now) (count c.args.pairs.now) (room c.args.pairs.now) c.args.r c.args.q given c.requires.ready c.requires.above c.requires.inside c.requires.top (g.S.Signature.kind c.args.signature.now) (subst (λ m. Meets (g.S.Signature.kind c.args.signature.now) cs c.args.r c.args.q (Some m)) c.in-Bind.is c.in_ok-compare_roots.ensures) c.requires.lower (sym c.is_function.ensures ∙ c.if-is_function.false) (links_in c.link.new.self) c.link.ensures.linked,
      );
    }

pub returns-in-Same : goal.returns-in-Same
returns-in-Same g c =
    let cs = cells_in c.args.arena.now in let k = c.args.links.now in let given = laid c.args.arena.now k in
    record {
      logged = logged_none (links_in k) (trail_in k);
      turned = λ p tie left right. (join_same cs (links_in k) (held c.args.pairs.now) (count c.args.pairs.now) (room c.args.pairs.now) c.args.r c.args.q given c.requires.ready c.requires.above c.requires.inside c.requires.top p tie left right (g.S.Signature.kind c.args.signature.now) (subst (λ m. Meets (g.S.Signature.kind c.args.signature.now) cs c.args.r c.args.q (Some m)) c.in-Same.is c.in_ok-compare_roots.ensures), λ a. a);
    }

pub returns-in-Unequal : goal.returns-in-Unequal
returns-in-Unequal g c =
    let cs = cells_in c.args.arena.now in let k = c.args.links.now in let given = laid c.args.arena.now k in
    record {
      logged = logged_none (links_in k) (trail_in k);
      turned = λ p tie left right. (join_unequal cs (links_in k) (held c.args.pairs.now) (count c.args.pairs.now) (room c.args.pairs.now) c.args.r c.args.q given c.requires.ready c.requires.above c.requires.inside c.requires.top p tie left right (g.S.Signature.kind c.args.signature.now) (subst (λ m. Meets (g.S.Signature.kind c.args.signature.now) cs c.args.r c.args.q (Some m)) c.in-Unequal.is c.in_ok-compare_roots.ensures), λ a. a);
    }

pub returns-in-Args : goal.returns-in-Args
returns-in-Args g c =
    let cs = cells_in c.args.arena.now in let k = c.args.links.now in let given = laid c.args.arena.now k in
    record {
      logged = c.link-in-Args.ensures.logged;
      turned = λ p tie left right.
          join_args cs (links_in k) (held c.args.pairs.now) (count c.args.pairs.now) (room c.args.pairs.now) c.args.r c.args.q given c.requires.ready c.requires.above c.requires.inside c.requires.top p tie left right (g.S.Signature.kind c.args.signature.now)
          c.in-Args.n (subst (λ m. Meets (g.S.Signature.kind c.args.signature.now) cs c.args.r c.args.q (Some m)) c.in-Args.is c.in_ok-compare_roots.ensures) (links_in c.link-in-Args.new.self) c.link-in-Args.ensures.linked (held c.push_args.new.pairs) c.push_args.ensures.held (count c.push_args.new.pairs) c.push_args.ensures.count (room c.push_args.new.pairs) c.push_args.ensures.room;
    }
