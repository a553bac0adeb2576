use Rattle.std.proofs.Common.{◌≡◌, ◌∷◌, is_some, Some, None, sym, refl, ap, ◌∙◌, subst, arith}
use Rattle.unification.specs.Held.{held}
use Rattle.verdicts.specs.declared.ending.Leaves.{Leaves}
use Rattle.verdicts.specs.declared.ending.Tally.{Tally}
use Rattle.frames.specs.Owed.{tally_after}
use Rattle.frames.proofs.Arrivals.{arrived_to, frame_at_lem}
use Rattle.resolution.specs.State.{memory, branch, shortest}
use Rattle.unification.proofs.Stacks.{length_newest}
use Rattle.verdicts.proofs.Branches.{on_early}
use Rattle.verdicts.specs.Leaves.{ending_of, state_of}
use Rattle.frames.specs.Frames.{Rising}
use Rattle.resolution.proofs.machine.Machine.arrive.Goals as goal

pub invariant_of-progress-clause-rising : goal.invariant_of-progress-clause-rising
invariant_of-progress-clause-rising c =
    let early = on_early _ _ c.args.node.step _ _ _ _ c.branch_ending.ensures c.goals_left-left.ensures c.in-None.is in
    let limited = c.args.settings.limited.1 in let limit = c.limit.ensures in let cells = c.requires.fits.0 in let waiting = c.requires.fits.1 in let below = c.requires.below in
    let snapshot = c.snapshot.ensures in let len = c.len.ensures in let frames = c.args.progress.now.frames in
    subst Rising (sym c.put.ensures.held) ((omega arith, omega arith, omega arith), omega (arith, length_newest _ _ frames.inside), c.args.progress.now.rising)

pub returns-in-None-clause-arrives : goal.returns-in-None-clause-arrives
returns-in-None-clause-arrives c =
    let self = c.args.self.now in let n = c.args.node in let p = c.args.progress.now in let early = c.requires.early in
    let ends : None ≡ ending_of n.flag (state_of (is_some n.goals) n.step c.args.settings.limit) c.args.outcome = cc (c.in-None.is, c.branch_ending.ensures, c.goals_left-left.ensures, c.is_some.ensures, c.limit.ensures) in
    let made = frame_at_lem (memory self) n (record { node = n; clause = 0; bindings = c.snapshot.result; waiting = c.len.result }) refl refl c.snapshot.ensures.cells c.snapshot.ensures.trail (c.len.ensures ∙ self.waiting.ok.0) in
    λ home P kind whole.
    arrived_to home P kind c.args.settings.limit whole (memory self) (branch self) (shortest self) (held p.frames) p.tally n (omega arith) c.args.outcome None ends
    (memory self) (branch self) (shortest self) (held c.put.new.self) p.tally refl refl refl (c.put.ensures.held ∙ ap (λ f. f ∷ held p.frames) made) refl

pub returns-in-Some-clause-arrives : goal.returns-in-Some-clause-arrives
returns-in-Some-clause-arrives c =
    let self = c.args.self.now in let n = c.args.node in let p = c.args.progress.now in let early = c.requires.early in let kept = c.keep_path.new.self in
    let end = Some c.in-Some.end in
    let ends : end ≡ ending_of n.flag (state_of (is_some n.goals) n.step c.args.settings.limit) c.args.outcome = cc (c.in-Some.is, c.branch_ending.ensures, c.goals_left-left.ensures, c.is_some.ensures, c.limit.ensures) in
    let told : ◌≡◌ {A = Tally} (record { leaves = c.note-progress.result; steps = p.tally.steps }) (tally_after end p.tally n.step) = ap (λ (l : Leaves). record { leaves = l; steps = p.tally.steps }) c.note-progress.ensures in
    λ home P kind whole.
    arrived_to home P kind c.args.settings.limit whole (memory self) (branch self) (shortest self) (held p.frames) p.tally n (omega arith) c.args.outcome end ends
    (memory kept) (branch kept) (shortest kept) (held p.frames) (record { leaves = c.note-progress.result; steps = p.tally.steps }) c.keep_path.ensures.memory c.keep_path.ensures.branch c.keep_path.ensures.best refl told
