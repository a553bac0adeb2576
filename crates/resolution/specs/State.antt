-- What the machine holds.
use Rattle.std.specs.Prelude.{ℕ, ◌+◌, ◌≤◌, Bool, ◌&&◌, List, length, vec_items, vec_len, nat_le}
use Rattle.graphs.specs.Cells.{all_fit}
use Rattle.unification.specs.State.{cells_of, links_of, trail_of}
use Rattle.unification.specs.Held.{held}
use Rattle.typing.specs.Terms.{Signature}
use Rattle.trees.specs.Tree.{Program}
use Rattle.trees.specs.Summaries.{Summary}
use Rattle.frames.specs.Memory.{Memory}
use Rattle.frames.specs.Owed.{Underway}
use Rattle.frames.specs.Frames.{cells_at, waiting_at}
use Rattle.terms.specs.declared.Cell.{Cell}
use Rattle.resolution.specs.declared.machine.Machine.{Machine}
use Rattle.resolution.specs.declared.machine.Progress.{Progress}
use Rattle.resolution.specs.declared.search.Search.{Search}

abbrev pub memory : Machine → Memory
memory m = record { cells = cells_of m.bindings; links = links_of m.bindings; trail = trail_of m.bindings; waiting = vec_items m.waiting }

-- the clause numbers of the branch, and those of the shortest success
abbrev pub branch : Machine → List ℕ
branch m = m.trodden

abbrev pub shortest : Machine → List ℕ
shortest m = m.best

-- what it holds at a step leaves room for the steps to come
abbrev pub Fits : Machine → ℕ → Type 0
Fits m step = (length (cells_of m.bindings) ≤ cells_at step) × (vec_len m.waiting ≤ waiting_at step)

-- machine and walk are on the way to the summary of the whole tree
abbrev pub OnTheWay : Memory → Program → Signature → ℕ → Summary → Machine → Progress → Type 0
OnTheWay home P kind limit whole m p = Underway home P kind limit whole (memory m) (branch m) (shortest m) (held p.frames) p.tally

-- what a search holds between its calls: the cells and links of the equations that stand
abbrev pub standing_cells : Search → List Cell
standing_cells s = cells_of s.machine.bindings

abbrev pub standing_links : Search → List ℕ
standing_links s = links_of s.machine.bindings

abbrev pub standing_trail : Search → List ℕ
standing_trail s = trail_of s.machine.bindings

-- whether more cells have their place among those of the equations: at most 512 in all, each with an arity of at most 8, each variable below 1,056
abbrev pub stands : List Cell → List Cell → Bool
stands cs more = nat_le (length cs + length more) 512 && all_fit more
