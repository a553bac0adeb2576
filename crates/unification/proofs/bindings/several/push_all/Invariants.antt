use Rattle.std.proofs.Common.{◌≡◌, ◌+◌, drop}
use Rattle.unification.specs.Held.{held, count, room}
use Rattle.unification.specs.State.{cells_in}
use Rattle.unification.specs.Several.{stacked}
use Rattle.unification.proofs.bindings.several.push_all.Given as goal

abbrev pub invariant-loop-e : goal.invariant-loop-e
invariant-loop-e l =
    (stacked (cells_in l.arena) (drop l.e-index l.equations) (held l.pairs) ≡ stacked (cells_in l.arena) l.equations (held l.initial.pairs))
    × (count l.pairs ≡ count l.initial.pairs + l.e-index) × (room l.pairs ≡ room l.initial.pairs)
