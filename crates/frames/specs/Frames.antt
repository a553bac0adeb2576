-- The frames of a search: what each goes back to leaves room for the steps to come, and there is at most one frame to a step.
use Rattle.std.specs.Prelude.{◌≡◌, ℕ, ◌+◌, ◌-◌, ◌*◌, ◌<◌, ◌≤◌, cond, List, [], ◌∷◌, ◌++◌, length, get_or, Some, None, Option, nat_lt, slice_index_or, slice_set}
use Rattle.std.specs.Coded.{le_prop}
use Rattle.terms.specs.declared.Cell.{Cell}
use Rattle.clauses.specs.Clauses.{renamed}
use Rattle.graphs.specs.Cells.{blank}
use Rattle.frames.specs.declared.Frame.{Frame}

-- the list of clauses for the goal at a place of the cells
abbrev pub list_at : (ℕ → ℕ → List (List Cell)) → List Cell → ℕ → List (List Cell)
list_at clauses cells p = cond (nat_lt p (length cells)) (clauses (get_or cells p blank).value (get_or cells p blank).arity) []

-- a clause of the list stands after the cells with its variables made new, or the list has no clause of that number
pub record Stands (list : List (List Cell)) (clause step : ℕ) (before after : List Cell) (at : ℕ) : Type 0 where
  pub number : clause < length list
  pub many : clause < 65535
  pub place : at ≡ length before
  pub cells : after ≡ before ++ renamed (32 + 32 * step) (slice_index_or list clause [])
  pub few : length after ≤ length before + 32

abbrev pub Fetched : List (List Cell) → (clause step : ℕ) → (before after : List Cell) → Option ℕ → Type 0
Fetched list clause step before after None = (length list ≤ clause) × (after ≡ before)
Fetched list clause step before after (Some place) = Stands list clause step before after place

-- cells for the equations and the question, and then 32 for each step; goals that wait for the question and for each step
abbrev pub cells_at : ℕ → ℕ
cells_at step = 544 + 32 * step

abbrev pub waiting_at : ℕ → ℕ
waiting_at step = 32 + 32 * step

abbrev pub Roomy : Frame → Type 0
Roomy f = (f.node.step < 32) × (f.bindings.cells ≤ cells_at f.node.step) × (f.waiting ≤ waiting_at f.node.step)

-- the newest first: below a frame there are at most as many as its step number
abbrev pub Rising : List Frame → Type 0
Rising [] = Unit {0}
Rising (f ∷ fs) = Roomy f × (length fs ≤ f.node.step) × Rising fs

-- a fact with at most one proof, as a ghost field asks
pub rising_prop : (fs : List Frame) → IsProp (Rising fs)
rising_prop [] p q = λ i. tt
rising_prop (f ∷ fs) p q = λ i. ((le_prop p.0.0 q.0.0 i, le_prop p.0.1 q.0.1 i, le_prop p.0.2 q.0.2 i), le_prop p.1 q.1 i, rising_prop fs p.2 q.2 i)

-- what is left of a search at most: two turns for each step that is allowed still, and one for each frame
abbrev pub turns : (allowance steps frames : ℕ) → ℕ
turns allowance steps frames = 2 * (allowance - steps) + frames

-- the branch notes the clause that a step uses; a goal without clauses uses none
abbrev pub trodden_after : Option ℕ → List ℕ → (step clause : ℕ) → List ℕ
trodden_after None branch step clause = branch
trodden_after (Some head) branch step clause = slice_set branch step clause
