-- The clauses of a book: the rows of the predicate, in their order.
use Rattle.std.specs.Prelude.{◌≡◌, ℕ, ◌+◌, ◌<◌, ◌≤◌, Bool, cond, ◌&&◌, List, [], ◌∷◌, ◌++◌, map, length, vec_items, vec_len, All, filter, ◌==◌, nat_le, nat_lt, slice_index_or}
use Rattle.std.specs.List.{insert}
use Rattle.clauses.specs.Clauses.{Low, head_of}
use Rattle.terms.specs.declared.Cell.{Cell}
use Rattle.book.specs.declared.Row.{Row}
use Rattle.book.specs.Fit.{clause_of, up_to, Parted}
use Rattle.book.specs.declared.Book.{Book}
use Rattle.book.specs.declared.SealedBook.{SealedBook}
use Rattle.names.specs.Words.{names_of, names_fit}

abbrev pub is_for : ℕ → ℕ → Row → Bool
is_for p n r = r.predicate.symbol == p && r.predicate.arity == n

abbrev pub listed : List Row → List Cell → ℕ → ℕ → List (List Cell)
listed rows cells p n = map (clause_of cells) (filter (is_for p n) rows)

abbrev pub open_clauses : Book → ℕ → ℕ → List (List Cell)
open_clauses b = listed (vec_items b.rows) (vec_items b.cells)

abbrev pub book_clauses : SealedBook → ℕ → ℕ → List (List Cell)
book_clauses b = open_clauses b.book

-- the row is that of the clause with this number
pub record Found (b : Book) (p n number : ℕ) (r : Row) : Type 0 where
  pub below : number < length (open_clauses b p n)
  pub clause : slice_index_or (open_clauses b p n) number [] ≡ clause_of (vec_items b.cells) r
  pub few : r.len ≤ 32
  pub within : r.from + r.len ≤ length (vec_items b.cells)
  pub long : length (clause_of (vec_items b.cells) r) ≡ r.len
  pub low : All Low (clause_of (vec_items b.cells) r)

abbrev pub row_of : ℕ → List Cell → Row
row_of from clause = record { predicate = record { symbol = (head_of clause).value; arity = (head_of clause).arity }; from = from; len = length clause }

-- one clause more: its cells after the others, and its row after those of its predicate; the names are as they were
pub record Taken (before after : Book) (clause : List Cell) : Type 0 where
  pub cells : vec_items after.cells ≡ vec_items before.cells ++ clause
  pub place : ℕ
  pub after_others : Parted (vec_items before.rows) (λ q. up_to q (row_of 0 clause).predicate) place
  pub rows : vec_items after.rows ≡ insert (vec_items before.rows) place (row_of (vec_len before.cells) clause)
  pub names : after.names ≡ before.names

-- a book has at most 256 clauses and 2,048 cells, and its names fit: with a clause of n cells more, and these names
abbrev pub has_room : Book → ℕ → List (List ℕ) → Bool
has_room b n words = nat_lt (length (vec_items b.rows)) 256 && (nat_le (length (vec_items b.cells) + n) 2048 && names_fit words)

-- the clause is in the book, whose names now are these words
pub record Admitted (before after : Book) (clause : List Cell) (words : List (List ℕ)) : Type 0 where
  pub cells : vec_items after.cells ≡ vec_items before.cells ++ clause
  pub place : ℕ
  pub after_others : Parted (vec_items before.rows) (λ q. up_to q (row_of 0 clause).predicate) place
  pub rows : vec_items after.rows ≡ insert (vec_items before.rows) place (row_of (vec_len before.cells) clause)
  pub names : names_of after.names ≡ words

-- the clauses of a predicate with one more, where that is for it
abbrev pub listed_with : List Cell → ℕ → ℕ → List (List Cell)
listed_with clause p n = cond (is_for p n (row_of 0 clause)) (clause ∷ []) []
