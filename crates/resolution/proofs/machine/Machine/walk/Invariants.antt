use Rattle.std.proofs.Common.{◌≤◌}
use Rattle.unification.specs.Held.{count}
use Rattle.trees.specs.Tree.{Program}
use Rattle.trees.specs.Summaries.{Summary}
use Rattle.programs.specs.Spelling.{Spells}
use Rattle.frames.specs.Memory.{Memory}
use Rattle.resolution.specs.State.{OnTheWay}
use Rattle.frames.specs.Frames.{turns}
use Rattle.resolution.proofs.machine.Machine.walk.Given as goal

abbrev pub invariant-loop-frame : goal.invariant-loop-frame
invariant-loop-frame g l = (l.progress.tally.steps ≤ l.task.settings.allowance)
    × ((home : Memory) (prog : Program) (whole : Summary) → Spells prog (g.P.Source.clauses l.task.source.now)
    → OnTheWay home prog (g.K.Signature.kind l.task.kinds.now) l.task.settings.limit whole l.initial.self l.initial.progress
    → OnTheWay home prog (g.K.Signature.kind l.task.kinds.now) l.task.settings.limit whole l.self l.progress)

abbrev pub decreases-loop-frame : goal.decreases-loop-frame
decreases-loop-frame g l = turns l.task.settings.allowance l.progress.tally.steps (count l.progress.frames)
