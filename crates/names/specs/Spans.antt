-- Words at their spans.
use Rattle.std.specs.Prelude.{ℕ, ◌+◌, List, [], ◌∷◌, map, length}
use Rattle.lexis.specs.declared.token.Span.{Span}
pub use Rattle.lexis.specs.Worth.{word_at}

-- the words at their spans, in order
unfoldable pub words_in : List ℕ → List Span → List (List ℕ)
words_in bytes spans = map (word_at bytes) spans

-- how many bytes words take in all
abbrev pub bytes_of : List (List ℕ) → ℕ
bytes_of [] = 0
bytes_of (w ∷ ws) = length w + bytes_of ws
