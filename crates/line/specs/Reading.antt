-- What comes of a text: its clauses one after another, then its question, then the answer.
use Rattle.std.specs.Prelude.{◌≡◌, ℕ, ◌<◌, ◌≤◌, List, [], length, Some, None, Ok, Err, vec_items, Result}
use Rattle.lexis.specs.declared.fault.Fault.{Fault}
use Rattle.lexis.specs.declared.fault.Cause.TheVariants.{Full}
use Rattle.lexis.specs.Tokens.{token_at}
use Rattle.names.specs.Words.{names_of}
use Rattle.draft.specs.declared.Draft.{Draft}
use Rattle.draft.specs.Sketch.{QuestionRefused}
use Rattle.book.specs.declared.Book.{Book}
use Rattle.book.specs.declared.SealedBook.{SealedBook}
use Rattle.book.specs.Query.{query_at}
use Rattle.book.specs.Meaning.{open_clauses, book_clauses}
use Rattle.book.specs.Reading.{Accepted, Refused, Asked}
use Rattle.verdicts.specs.declared.Answer.{Answer}
use Rattle.verdicts.specs.declared.Refusal.{Refusal}
use Rattle.typing.specs.Worked.{form}
use Rattle.frames.specs.Asked.{judged, Bounded, Answered}
use Rattle.frames.specs.Asked.{Asked as Put}
use Rattle.line.specs.declared.Reply.{Reply}
use Rattle.line.specs.declared.Reply.TheVariants as reply

-- From a place on, clauses are read into a book until the question comes, which is at the place told, or until one is refused.
pub data ReadsBook (text : List ℕ) : Book → ℕ → Result ℕ Fault → Book → Type 0 where
  asked : {b : Book} {at p : ℕ} → query_at (token_at text at) ≡ Ok (Some p) → ReadsBook text b at (Ok p) b
  no_token : {b : Book} {at : ℕ} {e : Fault} → query_at (token_at text at) ≡ Err e → ReadsBook text b at (Err e) b
  no_clause : {b : Book} {at : ℕ} {e : Fault} → query_at (token_at text at) ≡ Ok None → Refused b text at e → ReadsBook text b at (Err e) b
  clause : {b b' b'' : Book} {at end : ℕ} {r : Result ℕ Fault} → query_at (token_at text at) ≡ Ok None → Accepted b b' text at end → ReadsBook text b' end r b''
      → ReadsBook text b at r b''

-- a text of more than 8,192 bytes is refused as too much, at 8,192, before anything else is judged
abbrev pub too_long_fault : Fault
too_long_fault = record { cause = Full; at = 8192 }

-- a sealed book has the clauses and the names of the open one
pub record SealedFrom (open-book : Book) (sealed : SealedBook) : Type 0 where
  pub clauses : (p n : ℕ) → book_clauses sealed p n ≡ open_clauses open-book p n
  pub names : names_of sealed.book.names ≡ names_of open-book.names

-- a text is read into an empty book, and its question into a draft
pub data ReadsText (text : List ℕ) (book : Book) (draft : Draft) : Result SealedBook Fault → Type 0 where
  too_long : 8192 < length text → ReadsText text book draft (Err too_long_fault)
  no_book : {e : Fault} {b : Book} → length text ≤ 8192 → ReadsBook text book 0 (Err e) b → ReadsText text book draft (Err e)
  no_question : {e : Fault} {b : Book} {p : ℕ} → length text ≤ 8192 → ReadsBook text book 0 (Ok p) b → QuestionRefused text p e → ReadsText text book draft (Err e)
  question : {b : Book} {p : ℕ} {s : SealedBook} → length text ≤ 8192 → ReadsBook text book 0 (Ok p) b → SealedFrom b s → Asked s.book.names text p draft → ReadsText text book draft (Ok s)

-- no clauses and no names
pub record Empty (book : Book) : Type 0 where
  pub clauses : (p n : ℕ) → open_clauses book p n ≡ []
  pub names : names_of book.names ≡ []

abbrev pub reply_of : Result Answer Refusal → Reply
reply_of (Ok a) = reply.Answered a
reply_of (Err e) = reply.Refused e

-- The reply to a text under a step limit and an allowance, constants' kinds being their forms and no other equations standing, with the path slice before and after:
-- its fault, or what asking its question tells.
pub data RepliesWithin (text : List ℕ) (limit allowance : ℕ) (before after : List ℕ) : Reply → Type 0 where
  faulty : {e : Fault} (book : Book) (draft : Draft) → Empty book → ReadsText text book draft (Err e) → after ≡ before → RepliesWithin text limit allowance before after (reply.Faulty e)
  replied : (book : Book) (draft : Draft) (sealed : SealedBook) (r : Result Answer Refusal) → Empty book → ReadsText text book draft (Ok sealed)
      → Put (judged (vec_items draft.cells) 12864 512 (length before)) (book_clauses sealed) form limit allowance (vec_items draft.cells) [] before after r
      → RepliesWithin text limit allowance before after (reply_of r)

-- The reply to a text: its fault, or what asking its question tells, within an allowance of 100,000 steps.
pub data Replies (text : List ℕ) : Reply → Type 0 where
  faulty : {e : Fault} (book : Book) (draft : Draft) → Empty book → ReadsText text book draft (Err e) → Replies text (reply.Faulty e)
  replied : (book : Book) (draft : Draft) (sealed : SealedBook) (r : Result Answer Refusal) → Empty book → ReadsText text book draft (Ok sealed)
      → Bounded (judged (vec_items draft.cells) 12864 512 32) 100000 r → Replies text (reply_of r)

-- The reply of the program: limit 32, allowance 100,000, a path slice of 32 places. Its question is never refused for its cells, so its cut tree tells.
pub data RepliesByTree (text : List ℕ) : Reply → Type 0 where
  faulty : {e : Fault} (book : Book) (draft : Draft) → Empty book → ReadsText text book draft (Err e) → RepliesByTree text (reply.Faulty e)
  replied : (book : Book) (draft : Draft) (sealed : SealedBook) (r : Result Answer Refusal) (before after : List ℕ) → Empty book → ReadsText text book draft (Ok sealed)
      → Answered (book_clauses sealed) form 32 100000 (vec_items draft.cells) [] before after r → RepliesByTree text (reply_of r)
