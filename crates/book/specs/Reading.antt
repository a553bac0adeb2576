-- What reading a clause does to a book, and what a question says to it.
use Rattle.std.specs.Prelude.{◌≡◌, ℕ, true, false, List, ◌++◌, length, Ok, Err, vec_items}
use Rattle.terms.specs.declared.Cell.{Cell}
use Rattle.lexis.specs.Tokens.{start_at}
use Rattle.lexis.specs.declared.fault.Fault.{Fault}
use Rattle.lexis.specs.declared.fault.Cause.TheVariants.{Full}
use Rattle.book.specs.declared.Book.{Book}
use Rattle.draft.specs.declared.Draft.{Draft}
use Rattle.names.specs.declared.Names.{Names}
use Rattle.names.specs.Words.{names_of}
use Rattle.draft.specs.Numbering.{numbered_all, words_after}
use Rattle.draft.specs.Sketch.{Sketch, ReadsClause, QuestionRead}
use Rattle.book.specs.Meaning.{open_clauses, listed_with, has_room}

-- what was read, its names and strings numbered by the names known before
abbrev pub cells_from : List ℕ → Names → Sketch → List Cell
cells_from text names s = numbered_all text (names_of names) s.cells s.spans

-- the names known afterwards
abbrev pub names_from : List ℕ → Names → Sketch → List (List ℕ)
names_from text names s = words_after text (names_of names) s.cells s.spans

-- the clause at the place was read and had room: it is the last of its predicate's clauses, and its new names are the last names
pub record Accepted (before after : Book) (text : List ℕ) (at end : ℕ) : Type 0 where
  pub sketch : Sketch
  pub reads : ReadsClause text at (Ok (end, sketch))
  pub room : has_room before (length (cells_from text before.names sketch)) (names_from text before.names sketch) ≡ true
  pub clauses : (p n : ℕ) → open_clauses after p n ≡ open_clauses before p n ++ listed_with (cells_from text before.names sketch) p n
  pub names : names_of after.names ≡ names_from text before.names sketch

-- the clause was not read; or it was read and had no room, which is told at its first token
pub data Refused (before : Book) (text : List ℕ) (at : ℕ) : Fault → Type 0 where
  unread : {e : Fault} → ReadsClause text at (Err e) → Refused before text at e
  full : (end : ℕ) (s : Sketch) → ReadsClause text at (Ok (end, s)) → has_room before (length (cells_from text before.names s)) (names_from text before.names s) ≡ false
      → Refused before text at (record { cause = Full; at = start_at text at })

-- the draft holds the question's cells, names that the book does not have numbered after the book's
pub record Asked (names : Names) (text : List ℕ) (at : ℕ) (d : Draft) : Type 0 where
  pub sketch : Sketch
  pub question : QuestionRead text at sketch
  pub cells : vec_items d.cells ≡ cells_from text names sketch
