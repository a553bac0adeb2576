use Rattle.std.proofs.Common.{subst, arith}
use Rattle.std.proofs.lemmas.Result.{MatchResult-from_err}
use Rattle.unification.specs.Held.{held}
use Rattle.unification.proofs.Stacks.{length_newest}
use Rattle.frames.specs.Frames.{Rising}
use Rattle.frames.specs.Owed.{Underway}
use Rattle.frames.proofs.Turns.{walk_ended}
use Rattle.resolution.specs.State.{memory, branch, shortest}
use Rattle.resolution.proofs.machine.Machine.walk.Goals as goal

pub turn-requires-clause-below : goal.turn-requires-clause-below
turn-requires-clause-below g c =
    let popped = subst Rising c.in-Some.ensures.held c.loop-frame.progress.rising in
    omega (arith, popped.1, length_newest _ _ c.pop.new.self.inside)

pub returns-in_err-turn-clause-walked : goal.returns-in_err-turn-clause-walked
returns-in_err-turn-clause-walked g c = λ home prog whole spells on.
    let self = c.loop-frame.self in let task = c.args.task.now in
    let popped = subst (λ fs. Underway home prog (g.K.Signature.kind task.kinds.now) task.settings.limit whole (memory self) (branch self) (shortest self) fs c.loop-frame.progress.tally) c.in-Some.ensures.held (c.loop-frame.invariant.1 home prog whole spells on) in
    MatchResult-from_err _ _ _ c.from_residual.ensures.0 (λ _. c.in_err-turn.ensures.underway home prog whole spells popped)

pub returns-clause-walked : goal.returns-clause-walked
returns-clause-walked g c = λ home prog whole spells on.
    let self = c.loop-frame.self in let progress = c.loop-frame.progress in let task = c.args.task.now in
    walk_ended home prog (g.K.Signature.kind task.kinds.now) task.settings.limit whole (memory self) (branch self) (shortest self) (held progress.frames) progress.tally
    c.in_default.ensures.held.0 (c.loop-frame.invariant.1 home prog whole spells on)
