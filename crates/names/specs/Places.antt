-- The place of a word among words.
use Rattle.std.specs.Prelude.{ℕ, cond, List, [], ◌∷◌, ◌++◌, length, position, Option, nat_lt}
use Rattle.std.specs.List.{position_or_len}
use Rattle.std.specs.Str.{bytes_eq}

-- the place of a word among words, or their number where it is not among them
unfoldable pub place_of : List ℕ → List (List ℕ) → ℕ
place_of w ws = position_or_len (λ x. bytes_eq x w) ws

-- the place of a word among words, where it is among them
unfoldable pub found_in : List ℕ → List (List ℕ) → Option ℕ
found_in w ws = position (λ x. bytes_eq x w) ws

-- the words with one more, where it is new
abbrev pub with_word : List ℕ → List (List ℕ) → List (List ℕ)
with_word w ws = cond (nat_lt (place_of w ws) (length ws)) ws (ws ++ w ∷ [])
