use Rattle.std.proofs.Common.{◌≡◌, length, take, drop}
use Rattle.store.specs.Model.{model_of}
use Rattle.store.specs.History.{History, fixed, world}
use Rattle.store.proofs.replay.run.Given as goal

abbrev pub invariant-loop-i : goal.invariant-loop-i
invariant-loop-i g l =
    (l.store.base ≡ l.initial.store.base)
    × History (fixed (g.P.Source.clauses l.initial.store.base.source) (g.G.Signature.kind l.initial.store.base.signature) l.initial.store.base.settings.limit l.initial.store.base.settings.allowance l.initial.store.base.number (length l.initial.pairs) (length l.initial.frames))
    (world (model_of l.initial.store.table) l.initial.path l.initial.out) (take l.i l.calls) (take l.i l.replies) (world (model_of l.store.table) l.path l.out)
    × (drop l.i l.replies ≡ drop l.i l.initial.replies)
