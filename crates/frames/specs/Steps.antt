-- One step from a node: its first goal and a clause, in the memory of the search.
use Rattle.std.specs.Prelude.{◌≡◌, ℕ, ◌+◌, false, List, ◌∷◌, ◌++◌, drop, Some, None, Option}
use Rattle.terms.specs.declared.Cell.{Cell}
use Rattle.typing.specs.Terms.{Term, ◌≈◌, Eqs, Signature}
use Rattle.typing.specs.Rules.{Means}
use Rattle.trees.specs.Tree.{Goal}
use Rattle.graphs.specs.Cells.{after}
use Rattle.graphs.specs.Flat.{Stands}
use Rattle.graphs.specs.Links.{Logged}
use Rattle.programs.specs.Spelling.{spell_goals}
use Rattle.unification.specs.declared.Outcome.{Outcome}
use Rattle.unification.specs.declared.Outcome.TheVariants as outcome
use Rattle.unification.specs.Standing.{Standing, Unified, named}
use Rattle.frames.specs.declared.Waiting.{Waiting}
use Rattle.frames.specs.declared.Node.{Node}
use Rattle.frames.specs.declared.Frame.{Frame}
use Rattle.frames.specs.Memory.{Memory, rolled}
use Rattle.frames.specs.Goals.{Lists}

abbrev pub with_cells : Memory → List Cell → Memory
with_cells m cs = record { cells = cs; links = m.links; trail = m.trail; waiting = m.waiting }

-- the frame that goes on with the next clause
abbrev pub next_clause : Frame → Frame
next_clause f = record { node = f.node; clause = f.clause + 1; bindings = f.bindings; waiting = f.waiting }

-- the node after a goal is dropped
abbrev pub dropped : Frame → Waiting → Node
dropped f w = record { goals = w.rest; flag = false; step = f.node.step + 1 }

-- the outcome of the terms at two places, whatever stood before
abbrev pub Told : Signature → Memory → ℕ → ℕ → Outcome → Type 0
Told kind m p q o = (E : Eqs) (t u : Term) → Standing kind m.cells m.links E → Stands m.cells p t → Stands m.cells q u → Means kind ((t ≈ u) ∷ E) (named o)

-- A solved step keeps the new equation and puts the body's goals, which stand after the head, before the others.
pub record TakenUp (kind : Signature) (f : Frame) (w : Waiting) (head : ℕ) (m m' : Memory) (n : Node) : Type 0 where
  pub told : Unified kind m.cells m.links w.goal head m'.links outcome.Solved
  pub cells : m'.cells ≡ m.cells
  pub logged : Logged m.links m.trail m'.links m'.trail
  pub later : List Waiting
  pub waiting : m'.waiting ≡ m.waiting ++ later
  pub goals : (bs gs : List Goal) → drop (after m.cells head) m.cells ≡ spell_goals bs → Lists m.cells m.waiting w.rest gs → Lists m'.cells m'.waiting n.goals (bs ++ gs)
  pub flag : n.flag ≡ f.node.flag
  pub step : n.step ≡ f.node.step + 1

-- A goal without a clause is dropped; with a clause, whose head stands at a place, the step goes by its outcome. Unless it is solved the bindings go back.
abbrev pub Resolved : Signature → Frame → Waiting → Option ℕ → Memory → Memory → Node → Outcome → Type 0
Resolved kind f w None m m' n o = (m' ≡ m) × (n ≡ dropped f w) × (o ≡ outcome.False)
Resolved kind f w (Some h) m m' n outcome.Solved = TakenUp kind f w h m m' n
Resolved kind f w (Some h) m m' n outcome.False = Told kind m w.goal h outcome.False × (m' ≡ rolled m f.bindings) × (n ≡ dropped f w)
Resolved kind f w (Some h) m m' n outcome.Wrong = Told kind m w.goal h outcome.Wrong × (m' ≡ rolled m f.bindings) × (n ≡ dropped f w)
