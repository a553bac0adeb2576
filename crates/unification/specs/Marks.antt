-- The marks of a walk, which stand for the numbers of the theory: 0 is unseen, 1 is open, and what is done has a number from 2 on.
use Rattle.std.specs.Prelude.{◌≡◌, ℕ, suc, ◌+◌, ◌-◌, ◌≤◌, Bool, true, false, List, [], ◌∷◌, length, slice_index, slice_index_or, slice_set}
use Rattle.terms.specs.declared.Cell.{Cell}
use Rattle.unification.specs.declared.walk.mark.Mark.{Mark}
use Rattle.unification.specs.declared.walk.mark.Mark.TheVariants.{Unseen, Open, Done}
use Rattle.graphs.specs.Graph.{Shape, free, atom, app, Graph}
use Rattle.graphs.specs.Cells.{blank, arguments}
use Rattle.graphs.specs.Search.{zeros, Searching, Cyclic, Finished, Amid, Enclosed, SweepingFrom}

-- only functions are walked
abbrev pub mark_of_shape : Shape → Mark → Mark
mark_of_shape free m = Done
mark_of_shape (atom f v) m = Done
mark_of_shape (app s ks) m = m

abbrev pub mark_of : Graph → List Mark → ℕ → Mark
mark_of g ms k = mark_of_shape (g k) (slice_index_or ms k Unseen)

-- how many are unseen
abbrev pub unseen : List Mark → ℕ
unseen [] = 0
unseen (Unseen ∷ ms) = suc (unseen ms)
unseen (Open ∷ ms) = unseen ms
unseen (Done ∷ ms) = unseen ms

abbrev pub Bears : Mark → ℕ → Type 0
Bears Unseen n = n ≡ 0
Bears Open n = n ≡ 1
Bears Done n = 2 ≤ n

-- the marks stand for the numbers o
pub record Marking (ms : List Mark) (o : List ℕ) : Type 0 where
  pub long : length o ≡ length ms
  pub each : (k : ℕ) → Bears (slice_index_or ms k Unseen) (slice_index o k)

-- the walk comes to root r with these marks, which stand for the numbers o
pub record Begins (cs : List Cell) (l : List ℕ) (ms : List Mark) (r : ℕ) (o : List ℕ) (clock : ℕ) : Type 0 where
  pub marking : Marking ms o
  pub state : Searching cs l o clock
  pub inside : Enclosed cs l o r

-- the walk has visited root r, or found a cycle
abbrev pub Walks : List Cell → List ℕ → List Mark → ℕ → List Mark → Bool → Type 0
Walks cs l ms r ms' true = (o : List ℕ) (clock : ℕ) → Begins cs l ms r o clock → (o' : List ℕ) × (c : ℕ) × (Marking ms' o' × Finished cs l o clock r o' c)
Walks cs l ms r ms' false = (o : List ℕ) (clock : ℕ) → Begins cs l ms r o clock → Cyclic cs l

-- root r is open, and all its arguments but those of the nodes ks are done
abbrev pub Walking : List Cell → List ℕ → List Mark → ℕ → List Mark → List ℕ → Type 0
Walking cs l ms r ms' ks = (o : List ℕ) (clock : ℕ) → Begins cs l ms r o clock
    → (o' : List ℕ) × (c place i : ℕ) × (Marking ms' o' × (Amid cs l (slice_set o r 1) (clock + zeros (slice_set o r 1)) r (slice_index_or cs r blank).arity o' c place i
    × (ks ≡ arguments cs ((slice_index_or cs r blank).arity - i) place)))

-- the first n nodes of the list are swept
abbrev pub Sweeping : List Cell → List ℕ → List ℕ → List Mark → ℕ → Type 0
Sweeping cs l nodes ms n = (o : List ℕ) × (c : ℕ) × (Marking ms o × SweepingFrom cs l nodes o c n)
