-- Bytes that belong together, and how far they go on.
use Rattle.std.specs.Prelude.{◌≡◌, ℕ, ◌+◌, ◌≤◌, Bool, not, ◌&&◌, ◌||◌, List, drop, ◌==◌}
use Rattle.std.specs.List.{prefix_len}
use Rattle.lexis.specs.Classes.{class_of, within, blank, digit, of_word}

-- blanks between tokens, digits of base 10 and 16, the bytes of a word, the bytes inside quotes
abbrev pub is_blank : ℕ → Bool
is_blank b = blank (class_of b)

abbrev pub is_digit : ℕ → Bool
is_digit b = digit (class_of b)

abbrev pub is_word : ℕ → Bool
is_word b = of_word (class_of b)

abbrev pub is_hex : ℕ → Bool
is_hex b = within 48 57 b || within 97 102 b

abbrev pub is_quoted : ℕ → Bool
is_quoted b = within 32 126 b && not (b == 34)

-- at a byte the answers are those of the test
abbrev pub Tests : (ℕ → Bool → Type 0) → (ℕ → Bool) → Type 0
Tests answers test = (b : ℕ) (r : Bool) → answers b r → r ≡ test b

-- the place of the first byte from a place on that does not pass the test
unfoldable pub end_of : (ℕ → Bool) → List ℕ → ℕ → ℕ
end_of test text at = at + prefix_len test (drop at text)

-- the place is not before another, and not past the length where that is not
abbrev pub Between : ℕ → ℕ → ℕ → Type 0
Between at end length = (at ≤ end) × (at ≤ length → end ≤ length)
