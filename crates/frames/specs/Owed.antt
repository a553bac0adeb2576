-- What the frames of a search stand for: the work that the search still owes to the tree.
use Rattle.std.specs.Prelude.{◌≡◌, ℕ, zero, suc, ◌+◌, ◌<◌, Bool, true, false, cond, List, [], ◌∷◌, length, take, drop, Some, None, Option}
use Rattle.std.proofs.Math.Option as option
use Rattle.typing.specs.Terms.{Eqs, Signature}
use Rattle.trees.specs.Tree.{Goal, Program, listed}
use Rattle.trees.specs.Summaries.{Summary}
use Rattle.trees.specs.Search.{Work, node, tries, Toward}
use Rattle.unification.specs.declared.Outcome.{Outcome}
use Rattle.unification.specs.declared.Outcome.TheVariants as outcome
use Rattle.unification.specs.Standing.{Standing}
use Rattle.verdicts.specs.declared.ending.Tally.{Tally}
use Rattle.verdicts.specs.declared.ending.Leaves.{Leaves}
use Rattle.verdicts.specs.declared.ending.Ending.{Ending}
use Rattle.verdicts.specs.declared.ending.Ending.TheVariants.{Success, Untrue, Wrong, Cut}
use Rattle.verdicts.specs.Leaves.{shorter, noted}
use Rattle.frames.specs.declared.Node.{Node}
use Rattle.frames.specs.declared.Frame.{Frame}
use Rattle.frames.specs.Memory.{Memory, back, Marks, Grown}
use Rattle.frames.specs.Goals.{Lists}

-- At a node reached along r whose first goal is g: before its first clause the node itself is owed, afterwards the clauses from number i on.
abbrev pub work_from : Program → ℕ → List ℕ → Bool → Goal → List Goal → Eqs → ℕ → Work
work_from P zero r f g gs E k = node r f (g ∷ gs) E k
work_from P (suc i) r f g gs E k = tries r (suc i) f g gs E k (drop (suc i) (listed P g))

-- In the memory m stands a node: its equations, its goals, and, while its flag is true, the clause numbers of the branch to it.
pub record Reached (kind : Signature) (trodden : List ℕ) (m : Memory) (n : Node) (r : List ℕ) (gs : List Goal) (E : Eqs) : Type 0 where
  pub standing : Standing kind m.cells m.links E
  pub goals : Lists m.cells m.waiting n.goals gs
  pub path : n.flag ≡ true → take n.step trodden ≡ r

-- every frame's step is below k
abbrev pub Lower : ℕ → List Frame → Type 0
Lower k [] = Unit {0}
Lower k (f ∷ fs) = (f.node.step < k) × Lower k fs

-- what a frame owes, in the memory that it goes back to, which has grown from that where the search began
pub record Owing (home : Memory) (P : Program) (kind : Signature) (limit : ℕ) (trodden : List ℕ) (m : Memory) (f : Frame) (w : Work) : Type 0 where
  pub since : Grown home m
  pub marks : Marks m f
  pub early : f.node.step < limit
  pub path : List ℕ
  pub goal : Goal
  pub rest : List Goal
  pub equations : Eqs
  pub reached : Reached kind trodden m f.node path (goal ∷ rest) equations
  pub work : w ≡ work_from P f.clause path f.node.flag goal rest equations f.node.step

-- the work of all frames, the newest first, each going back from where the one above it went back to
abbrev pub Owes : Memory → Program → Signature → ℕ → List ℕ → Memory → List Frame → List Work → Type 0
Owes home P kind limit trodden m [] ws = (ws ≡ []) × Grown home m
Owes home P kind limit trodden m (f ∷ fs) ws =
    (w : Work) × (vs : List Work) × (ws ≡ w ∷ vs) × Owing home P kind limit trodden (back m f) f w × Lower f.node.step fs × Owes home P kind limit trodden (back m f) fs vs

-- the shortest path so far, by its length and the places that keep it
abbrev pub Kept : Option ℕ → List ℕ → option.Option (List ℕ) → Type 0
Kept None best option.none = Unit {0}
Kept None best (option.some p) = ⊥
Kept (Some n) best option.none = ⊥
Kept (Some n) best (option.some p) = (length p ≡ n) × (take n best ≡ p)

-- a tally and the kept path say what a summary says
pub record Tallied (t : Tally) (best : List ℕ) (a : Summary) : Type 0 where
  pub steps : a.edges ≡ t.steps
  pub uses : Kept t.leaves.uses best a.best
  pub cut : a.any_cut ≡ t.leaves.cut
  pub wrong : a.all_wrong ≡ t.leaves.wrong

-- on the way to the summary of the whole tree: what is tallied, with what the frames owe, is the whole
pub record Underway (home : Memory) (P : Program) (kind : Signature) (limit : ℕ) (whole : Summary) (m : Memory) (trodden best : List ℕ) (fs : List Frame) (t : Tally) : Type 0 where
  pub sum : Summary
  pub works : List Work
  pub owes : Owes home P kind limit trodden m fs works
  pub tallied : Tallied t best sum
  pub toward : Toward P kind limit whole sum works

-- on the way, with a node that has just been reached and is still to be counted
pub record Entering (home : Memory) (P : Program) (kind : Signature) (limit : ℕ) (whole : Summary) (m : Memory) (trodden best : List ℕ) (fs : List Frame) (t : Tally) (n : Node) : Type 0 where
  pub sum : Summary
  pub works : List Work
  pub path : List ℕ
  pub goals : List Goal
  pub equations : Eqs
  pub since : Grown home m
  pub owes : Owes home P kind limit trodden m fs works
  pub lower : Lower n.step fs
  pub reached : Reached kind trodden m n path goals equations
  pub tallied : Tallied t best sum
  pub toward : Toward P kind limit whole sum (node path n.flag goals equations n.step ∷ works)

-- after a step of an outcome: a wrong one leaves no node to enter, a false one leaves the flag false
abbrev pub Arrives : Memory → Program → Signature → ℕ → Summary → Memory → List ℕ → List ℕ → List Frame → Tally → Node → Outcome → Type 0
Arrives home P kind limit whole m trodden best fs t n outcome.Solved = Entering home P kind limit whole m trodden best fs t n
Arrives home P kind limit whole m trodden best fs t n outcome.False = Entering home P kind limit whole m trodden best fs t n × (n.flag ≡ false)
Arrives home P kind limit whole m trodden best fs t n outcome.Wrong = Underway home P kind limit whole m trodden best fs t

-- the frame that is made for a node
abbrev pub frame_at : Memory → Node → Frame
frame_at m n = record { node = n; clause = 0; bindings = record { cells = length m.cells; trail = length m.trail }; waiting = length m.waiting }

-- a node that goes on has a frame
abbrev pub frames_after : Option Ending → Frame → List Frame → List Frame
frames_after None f fs = f ∷ fs
frames_after (Some end) f fs = fs

-- a success that is shorter than any before it is kept
abbrev pub best_after : Option Ending → Leaves → ℕ → List ℕ → List ℕ → List ℕ
best_after (Some Success) l k trodden best = cond (shorter l.uses k) trodden best
best_after (Some Untrue) l k trodden best = best
best_after (Some Wrong) l k trodden best = best
best_after (Some Cut) l k trodden best = best
best_after None l k trodden best = best

abbrev pub tally_after : Option Ending → Tally → ℕ → Tally
tally_after end t k = record { leaves = noted t.leaves end k; steps = t.steps }

-- one step more
abbrev pub one_more : Tally → Tally
one_more t = record { leaves = t.leaves; steps = t.steps + 1 }

-- the root of a tree
abbrev pub root_of : Option ℕ → Node
root_of goals = record { goals = goals; flag = true; step = 0 }
