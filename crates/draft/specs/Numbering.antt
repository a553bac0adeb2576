-- Names and strings get numbers in order of first appearance, an equal word the same number.
use Rattle.std.specs.Prelude.{ℕ, Bool, cond, ◌&&◌, ◌||◌, List, [], ◌∷◌, ◌++◌, vec_items, ◌==◌, nat_le}
use Rattle.terms.specs.declared.Cell.{Cell}
use Rattle.draft.specs.declared.Draft.{Draft}
use Rattle.names.specs.declared.Names.{Names}
use Rattle.lexis.specs.declared.token.Span.{Span}
use Rattle.names.specs.Places.{place_of, with_word}
use Rattle.names.specs.Spans.{word_at, words_in}
use Rattle.names.specs.Words.{names_of}

-- a symbol, an atom or a string
abbrev pub is_named : Cell → Bool
is_named c = c.tag == 2 || (c.tag == 1 && nat_le 2 c.form)

-- the cell with its word's number among the words
abbrev pub numbered : List ℕ → List (List ℕ) → Cell → Cell
numbered w ws c = cond (is_named c) (record { tag = c.tag; form = c.form; arity = c.arity; value = place_of w ws }) c

-- the words after the cell
abbrev pub noted : List ℕ → List (List ℕ) → Cell → List (List ℕ)
noted w ws c = cond (is_named c) (with_word w ws) ws

-- cells with their words, numbered one after another
unfoldable pub numbered_all : List ℕ → List (List ℕ) → List Cell → List Span → List Cell
numbered_all text ws [] ss = []
numbered_all text ws (c ∷ cs) [] = c ∷ cs
numbered_all text ws (c ∷ cs) (s ∷ ss) = numbered (word_at text s) ws c ∷ numbered_all text (noted (word_at text s) ws c) cs ss

-- the words after them all: those known before, and the new ones in order
unfoldable pub words_after : List ℕ → List (List ℕ) → List Cell → List Span → List (List ℕ)
words_after text ws [] ss = ws
words_after text ws (c ∷ cs) [] = ws
words_after text ws (c ∷ cs) (s ∷ ss) = words_after text (noted (word_at text s) ws c) cs ss

-- the book's names, and then the draft's new words
abbrev pub known : Names → List ℕ → Draft → List (List ℕ)
known n text d = names_of n ++ words_in text (vec_items d.fresh)

abbrev pub no_span : Span
no_span = record { start = 0; end = 0 }
