use Rattle.std.proofs.Common.{◌≡◌, ◌+◌, ◌-◌}
use Rattle.graphs.specs.Graph.{onto}
use Rattle.graphs.specs.Cells.{arguments}
use Rattle.unification.specs.State.{cells_in}
use Rattle.unification.specs.Held.{held, count, room}
use Rattle.unification.proofs.solve.push_args.Given as goal

abbrev pub invariant-loop-i : goal.invariant-loop-i
invariant-loop-i l =
    (onto (arguments (cells_in l.arena) (l.n - l.i) l.x) (arguments (cells_in l.arena) (l.n - l.i) l.y) (held l.pairs) ≡ onto (arguments (cells_in l.arena) l.n l.r) (arguments (cells_in l.arena) l.n l.q) (held l.initial.pairs))
    × (count l.pairs ≡ count l.initial.pairs + l.i) × (room l.pairs ≡ room l.initial.pairs)
