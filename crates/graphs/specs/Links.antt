-- Links kept in a list, and the trail that takes them back.
use Rattle.std.specs.Prelude.{◌≡◌, ℕ, zero, suc, ◌+◌, ◌≤◌, Bool, true, false, List, [], ◌∷◌, length, take, drop, ◌==◌, slice_index_or, slice_set}

-- the link of a node; a node past the end is a root
abbrev pub up_of : List ℕ → ℕ → ℕ
up_of l n = slice_index_or l n n

-- no link goes up
abbrev pub Down : List ℕ → Type 0
Down l = (k : ℕ) → up_of l k ≤ k

-- the weights of the roots, the list's first node being i
abbrev pub counted : Bool → ℕ → ℕ
counted true w = w
counted false w = 0

abbrev pub weight : (ℕ → ℕ) → ℕ → List ℕ → ℕ
weight w i [] = 0
weight w i (x ∷ xs) = counted (x == i) (w i) + weight w (suc i) xs

abbrev pub ones : ℕ → ℕ
ones n = 1

-- the links with those of the trail taken back, the newest, which is last, first
abbrev pub restore : List ℕ → List ℕ → List ℕ
restore l [] = l
restore l (r ∷ t) = slice_set (restore l t) r r

-- the links of n nodes, each a root
abbrev pub roots : ℕ → ℕ → List ℕ
roots i zero = []
roots i (suc n) = i ∷ roots (suc i) n

-- the trail has grown, its new entries take the new links back, and for each of them there is a root less
pub record Logged (l t l' t' : List ℕ) : Type 0 where
  pub grown : length t ≤ length t'
  pub kept : take (length t) t' ≡ t
  pub back : restore l' (drop (length t) t') ≡ l
  pub balance : weight ones 0 l' + length t' ≡ weight ones 0 l + length t
