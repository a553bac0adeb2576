use Rattle.std.proofs.Common.{ℕ, ◌-◌, ◌≤◌, length, Result}
use Rattle.lexis.specs.declared.fault.Fault.{Fault}
use Rattle.book.specs.declared.Book.{Book}
use Rattle.line.specs.Reading.{ReadsBook}
use Rattle.line.proofs.read_clauses.Given as goal

-- whatever comes of the text from here on comes of the whole
abbrev pub invariant-loop-place : goal.invariant-loop-place
invariant-loop-place l =
    (l.at ≤ length l.text)
    × ((r : Result ℕ Fault) (b : Book) → ReadsBook l.text l.book l.at r b → ReadsBook l.text l.initial.book 0 r b)

abbrev pub decreases-loop-place : goal.decreases-loop-place
decreases-loop-place l = length l.text - l.at
