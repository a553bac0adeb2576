use Rattle.std.proofs.Common.{◌≡◌, ◌<◌}
use Rattle.unification.specs.Arguments.{rest_of}
use Rattle.unification.specs.Marks.{unseen, Walking}
use Rattle.unification.specs.State.{cells_in, links_in}
use Rattle.unification.proofs.walk.Walk.+visit.Given as goal

abbrev pub decreases-visit : goal.decreases-visit
decreases-visit l = unseen l.self.now.marks.now

abbrev pub invariant-loop-kid : goal.invariant-loop-kid
invariant-loop-kid l =
    (l.self.arena ≡ l.fn.self.arena) × (l.self.links ≡ l.fn.self.links) × (unseen l.self.marks.now < unseen l.fn.self.marks.now)
    × Walking (cells_in l.fn.self.arena.now) (links_in l.fn.self.links.now) l.fn.self.marks.now l.r l.self.marks.now (rest_of l.kid-iterator)
