use Rattle.std.proofs.Common.{◌-◌, length}
use Rattle.unification.specs.State.{cells_of}
use Rattle.resolution.proofs.machine.Machine.+list_goals.Given as goal

-- the cells from the place on
abbrev pub decreases-list_goals : goal.decreases-list_goals
decreases-list_goals l = length (cells_of l.self.now.bindings) - l.place
