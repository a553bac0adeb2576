use Rattle.unification.specs.Arguments.{rest_of}
use Rattle.unification.specs.Reading.{Counting}
use Rattle.unification.specs.State.{cells_of, links_of}
use Rattle.unification.proofs.bindings.Bindings.+fits.Given as goal

abbrev pub decreases-fits : goal.decreases-fits
decreases-fits l = l.room

abbrev pub invariant-loop-kid : goal.invariant-loop-kid
invariant-loop-kid l =
    Counting (cells_of l.self) (links_of l.self) l.r l.n l.room l.rest (rest_of l.kid-iterator)
