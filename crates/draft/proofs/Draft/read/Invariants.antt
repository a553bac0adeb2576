use Rattle.std.proofs.Common.{ℕ, ◌-◌, ◌≤◌, length, Result}
use Rattle.lexis.specs.declared.fault.Fault.{Fault}
use Rattle.draft.specs.Sketch.{Sketch, sketch_of, Reads}
use Rattle.draft.proofs.Draft.read.Given as goal

abbrev pub invariant-loop-token : goal.invariant-loop-token
invariant-loop-token l =
    (l.place ≤ length l.text) × (l.initial.place ≤ l.place)
    × ((r : Result (ℕ × Sketch) Fault) → Reads l.text l.form l.due (sketch_of l.self) l.place r
    → Reads l.text l.form l.initial.due (sketch_of l.initial.self) l.initial.place r)

abbrev pub decreases-loop-token : goal.decreases-loop-token
decreases-loop-token l = length l.text - l.place
