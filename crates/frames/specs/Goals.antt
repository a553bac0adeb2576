-- Goal lists, by the places of the goals that wait.
use Rattle.std.specs.Prelude.{◌≡◌, ℕ, ◌<◌, List, [], ◌∷◌, length, Some, None, Option, slice_index_or}
use Rattle.terms.specs.declared.Cell.{Cell}
use Rattle.typing.specs.Terms.{fun}
use Rattle.trees.specs.Tree.{Goal}
use Rattle.graphs.specs.Flat.{Stands}
use Rattle.frames.specs.declared.Waiting.{Waiting}

-- w is the first of a goal list
pub record First (ws : List Waiting) (list : Option ℕ) (w : Waiting) : Type 0 where
  pub place : ℕ
  pub some : list ≡ Some place
  pub within : place < length ws
  pub is : slice_index_or ws place w ≡ w

-- the goals of a goal list, over cells and goals that wait
abbrev pub Lists : List Cell → List Waiting → Option ℕ → List Goal → Type 0
Lists cells ws list [] = list ≡ None
Lists cells ws list (g ∷ gs) = (w : Waiting) × First ws list w × Stands cells w.goal (fun g.symbol g.arguments) × Lists cells ws w.rest gs
