use Rattle.std.proofs.Common.{◌≡◌}
use Rattle.unification.specs.Marks.{Sweeping}
use Rattle.unification.specs.State.{cells_in, links_in}
use Rattle.unification.proofs.walk.Walk.sweep.Given as goal

abbrev pub invariant-loop-n : goal.invariant-loop-n
invariant-loop-n l =
    (l.self.arena ≡ l.fn.self.arena) × (l.self.links ≡ l.fn.self.links)
    × Sweeping (cells_in l.fn.self.arena.now) (links_in l.fn.self.links.now) l.nodes l.self.marks.now l.n-index
