-- A clause that was read, and what the book makes of it.
use Rattle.std.proofs.Common.{◌≡◌, ℕ, true, false, List, ◌++◌, length, Ok, vec_items, All, sym, ap, ◌∙◌, subst}
use Rattle.std.specs.List.{insert}
use Rattle.terms.specs.declared.Cell.{Cell}
use Rattle.lexis.specs.Tokens.{start_at}
use Rattle.lexis.specs.declared.fault.Fault.{Fault}
use Rattle.lexis.specs.declared.fault.Cause.TheVariants.{Full}
use Rattle.book.specs.declared.Book.{Book}
use Rattle.book.specs.Fit.{Inside}
use Rattle.draft.specs.Sketch.{Sketch, ReadsClause}
use Rattle.book.specs.Meaning.{has_room, Admitted, listed, listed_with, open_clauses, row_of}
use Rattle.book.specs.Reading.{cells_from, names_from, Accepted, Refused}
use Rattle.book.specs.Reading.Refused.{full}
use Rattle.book.specs.Listing.{listed_more}

room_same : (b : Book) (cells more : List Cell) (words others : List (List ℕ)) → cells ≡ more → words ≡ others → has_room b (length cells) words ≡ has_room b (length more) others
room_same b cells more words others e k = ap (λ cs. has_room b (length cs) words) e ∙ ap (λ ws. has_room b (length more) ws) k

admitted_clauses : (b a : Book) (clause : List Cell) (words : List (List ℕ)) → Admitted b a clause words → (p n : ℕ) → open_clauses a p n ≡ open_clauses b p n ++ listed_with clause p n
admitted_clauses b a clause words h p n =
    let k = b.cells.ok.0 in
    let j = b.rows.ok.0 in
    ap (λ rs. listed rs (vec_items a.cells) p n) (h.rows ∙ ap (λ m. insert (vec_items b.rows) h.place (row_of m clause)) k)
    ∙ (ap (λ cs. listed (insert (vec_items b.rows) h.place (row_of (length (vec_items b.cells)) clause)) cs p n) h.cells
    ∙ listed_more (vec_items b.cells) clause (vec_items b.rows) h.place p n
    (subst (λ (m : ℕ). All (Inside m) (vec_items b.rows)) k b.inside) h.after_others)

pub accepted_from : (b a : Book) (text : List ℕ) (at end : ℕ) (s : Sketch) (cells : List Cell) (words : List (List ℕ)) → ReadsClause text at (Ok (end, s))
    → cells ≡ cells_from text b.names s → words ≡ names_from text b.names s → has_room b (length cells) words ≡ true → Admitted b a cells words → Accepted b a text at end
accepted_from b a text at end s cells words r e k h x =
    record {
      sketch = s;
      reads = r;
      room = sym (room_same b cells (cells_from text b.names s) words (names_from text b.names s) e k) ∙ h;
      clauses = λ p n. admitted_clauses b a cells words x p n ∙ ap (λ cs. open_clauses b p n ++ listed_with cs p n) e;
      names = x.names ∙ k;
    }

pub refused_full : (b : Book) (text : List ℕ) (at end : ℕ) (s : Sketch) (cells : List Cell) (words : List (List ℕ)) (start : ℕ) (e : Fault) → ReadsClause text at (Ok (end, s))
    → cells ≡ cells_from text b.names s → words ≡ names_from text b.names s → has_room b (length cells) words ≡ false → start ≡ start_at text at → e ≡ record { cause = Full; at = start } → Refused b text at e
refused_full b text at end s cells words start e r ec ew h es ef =
    subst (Refused b text at) (sym (ef ∙ ap (λ n. record { cause = Full; at = n }) es))
    (full end s r (sym (room_same b cells (cells_from text b.names s) words (names_from text b.names s) ec ew) ∙ h))
