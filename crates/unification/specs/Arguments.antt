use Rattle.std.specs.Prelude.{ℕ, List}
use Rattle.unification.specs.declared.arena.Arguments.{Arguments}
use Rattle.graphs.specs.Cells.{arguments}
use Rattle.unification.specs.State.{cells_in}

-- the nodes that are left
abbrev pub rest_of : Arguments → List ℕ
rest_of a = arguments (cells_in a.arena.now) a.left a.place
