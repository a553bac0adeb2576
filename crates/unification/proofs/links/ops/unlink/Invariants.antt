use Rattle.std.proofs.Common.{◌≡◌, drop}
use Rattle.graphs.specs.Links.{restore}
use Rattle.unification.proofs.links.ops.unlink.Given as goal

abbrev pub invariant-loop-r : goal.invariant-loop-r
invariant-loop-r l = restore l.up (drop l.r-index l.nodes) ≡ restore l.initial.up l.nodes
