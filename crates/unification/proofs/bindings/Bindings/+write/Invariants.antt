use Rattle.std.proofs.Common.{◌-◌, length}
use Rattle.unification.specs.Arguments.{rest_of}
use Rattle.unification.specs.Reading.{Writing}
use Rattle.unification.specs.State.{cells_of, links_of}
use Rattle.unification.proofs.bindings.Bindings.+write.Given as goal

abbrev pub decreases-write : goal.decreases-write
decreases-write l = length l.out.now - l.at

abbrev pub invariant-loop-kid : goal.invariant-loop-kid
invariant-loop-kid l =
    Writing (cells_of l.self) (links_of l.self) l.r l.n l.initial.out l.initial.next l.out l.next (rest_of l.kid-iterator)
