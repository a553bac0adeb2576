use Rattle.std.proofs.Common.{◌≡◌, ◌+◌, ◌-◌, drop}
use Rattle.records.specs.Faults.{end_of}
use Rattle.records.proofs.Gathering.{GatheredTo}
use Rattle.records.proofs.gather.Listing.gather.Given as goal

-- the list has the facts of the records before the place, which is that of a record or the end
abbrev pub invariant-loop-at : goal.invariant-loop-at
invariant-loop-at l = GatheredTo l.symbols l.bytes l.at l.symbol l.listing × (l.at + end_of (drop l.at l.bytes) ≡ l.end)

abbrev pub decreases-loop-at : goal.decreases-loop-at
decreases-loop-at l = l.end - l.at
