use Rattle.std.proofs.Common.{◌≡◌, ◌+◌, ◌⊎◌, List, ◌++◌, drop, vec_items, vec_len, sym, refl, ap, ◌∙◌, subst, inl, inr, arith}
use Rattle.trees.specs.Tree.{Goal}
use Rattle.graphs.specs.Cells.{after}
use Rattle.programs.specs.Spelling.{spell_goals}
use Rattle.unification.specs.declared.Outcome.{Outcome}
use Rattle.unification.specs.declared.Outcome.TheVariants as outcome
use Rattle.unification.specs.Outcomes.{Settles}
use Rattle.unification.specs.Standing.{Unified}
use Rattle.frames.specs.Goals.{Lists}
use Rattle.frames.specs.declared.Node.{Node}
use Rattle.frames.proofs.Resolving.{resolved_solved, resolved_other}
use Rattle.resolution.specs.State.{memory}
use Rattle.verdicts.proofs.Branches.{flag_dropped}
use Rattle.unification.specs.State.{cells_of, links_of, trail_of}
use Rattle.frames.specs.Frames.{cells_at}
use Rattle.frames.proofs.Rooms.{cut_short}
use Rattle.resolution.proofs.machine.Machine.resolve.Goals as goal

unsolved : (o : Outcome) → ((o ≡ outcome.False) ⊎ (o ≡ outcome.Wrong)) → o ≡ outcome.Solved → ⊥
unsolved o (inl e) s = cc
unsolved o (inr e) s = cc

pub returns-in-Solved-clause-resolved : goal.returns-in-Solved-clause-resolved
returns-in-Solved-clause-resolved g c =
    let kind = g.K.Signature.kind c.args.kinds.now in
    let m = memory c.args.self.now in let listed = c.list_goals.new.self in let body = c.end_of-body.result in
    let same-bindings = c.list_goals.ensures.bindings in
    let told = c.in-Some-unify.ensures in
    resolved_solved kind c.args.frame c.args.goal c.args.head c.in-Some.head c.in-Some.is m _ c.in-Some-unify.outcome c.in-Solved.is
    (cells_of listed.bindings) (links_of listed.bindings) (trail_of listed.bindings) (vec_items listed.waiting) body (vec_len c.args.self.now.waiting)
    (subst (λ b. Unified kind m.cells m.links c.args.goal.goal c.in-Some.head (links_of b) c.in-Some-unify.outcome) (sym same-bindings) told.means)
    (subst (λ b. Settles m.links m.trail (links_of b) (trail_of b) c.in-Some-unify.outcome) (sym same-bindings) told.settles)
    (ap cells_of same-bindings ∙ c.unify.ensures.cells)
    (c.end_of-body.ensures.value ∙ ap (λ b. after (cells_of b) c.in-Some.head) (sym same-bindings))
    c.list_goals.ensures.kept
    (subst (λ b. (bs gs : List Goal) → drop body (cells_of b) ≡ spell_goals bs → Lists (cells_of b) m.waiting c.args.goal.rest gs → Lists (cells_of b) (vec_items listed.waiting) c.list_goals.result (bs ++ gs)) (sym same-bindings) c.list_goals.ensures.lists)
    refl refl

pub returns-in-False-clause-flag : goal.returns-in-False-clause-flag
returns-in-False-clause-flag g c =
    ap (λ (n : Node). n.flag) c.after_drop-in-False.ensures ∙ flag_dropped c.in-Some-unify.outcome c.args.frame.node.flag (unsolved c.in-Some-unify.outcome c.in-False.is)

pub returns-in-False-clause-resolved : goal.returns-in-False-clause-resolved
returns-in-False-clause-resolved g c =
    let kind = g.K.Signature.kind c.args.kinds.now in let m = memory c.args.self.now in let told = c.in-Some-unify.ensures in let rolled = c.roll_back.new.self in
    resolved_other kind c.args.frame c.args.goal c.args.head c.in-Some.head c.in-Some.is m _ c.in-Some-unify.outcome (unsolved c.in-Some-unify.outcome c.in-False.is)
    (cells_of c.unify.new.self) (links_of c.unify.new.self) (trail_of c.unify.new.self) (record { cells = cells_of rolled; links = links_of rolled; trail = trail_of rolled; waiting = vec_items c.args.self.now.waiting })
    told.means told.settles c.unify.ensures.cells c.roll_back.ensures.cells c.roll_back.ensures.links c.roll_back.ensures.trail refl c.after_drop-in-False.ensures

pub returns-in-False-clause-fits : goal.returns-in-False-clause-fits
returns-in-False-clause-fits g c =
    (cut_short (cells_at (c.args.frame.node.step + 1)) c.args.frame.bindings.cells _ _ c.roll_back.ensures.cells (let h = c.requires.roomy.1 in omega arith), let h = c.requires.waiting in omega arith)
