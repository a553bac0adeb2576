-- One clause more in a book.
use Rattle.std.specs.Prelude.{◌≡◌, ℕ, Bool, true, false, cond, List, [], ◌∷◌, ◌++◌, map, length, take, drop, All, filter, refl}
use Rattle.std.proofs.Common.{arith, ap, ◌∙◌}
use Rattle.std.specs.List.{insert}
use Rattle.std.proofs.lemmas.List.Elements.{All-filter, All-head, All-tail}
use Rattle.std.proofs.lemmas.List.{map-append, drop-append-le, take-append-le, drop_at, take_all, length-drop}
use Rattle.terms.specs.declared.Cell.{Cell}
use Rattle.book.specs.declared.Row.{Row}
use Rattle.book.specs.Fit.{Inside, clause_of, up_to, Parted}
use Rattle.book.specs.Meaning.{is_for, listed, row_of, listed_with}
use Rattle.book.specs.Rows.{kept_row}

pub clause_stays : (cells more : List Cell) (r : Row) → Inside (length cells) r → clause_of (cells ++ more) r ≡ clause_of cells r
clause_stays cells more r h =
    let l = length-drop r.from cells in
    let w = h.2 in
    ap (take r.len) (drop-append-le r.from cells more (omega arith)) ∙ take-append-le r.len (drop r.from cells) more (omega arith)

clauses_stay : (cells more : List Cell) (rows : List Row) → All (Inside (length cells)) rows → map (clause_of (cells ++ more)) rows ≡ map (clause_of cells) rows
clauses_stay cells more [] h = refl
clauses_stay cells more (r ∷ rs) h =
    ap (λ c. c ∷ map (clause_of (cells ++ more)) rs) (clause_stays cells more r (All-head (Inside (length cells)) r rs h)) ∙ ap (λ cs. clause_of cells r ∷ cs) (clauses_stay cells more rs (All-tail (Inside (length cells)) r rs h))

pub clause_added : (cells clause : List Cell) → clause_of (cells ++ clause) (row_of (length cells) clause) ≡ clause
clause_added cells clause = ap (take (length clause)) (drop_at cells clause (length cells) refl) ∙ take_all (length clause) clause (omega arith)

last_listed : (b : Bool) (cells clause : List Cell) → map (clause_of (cells ++ clause)) (cond b (row_of (length cells) clause ∷ []) []) ≡ cond b (clause ∷ []) []
last_listed true cells clause = ap (λ c. c ∷ []) (clause_added cells clause)
last_listed false cells clause = refl

pub listed_more : (cells clause : List Cell) (rows : List Row) (at p n : ℕ) → All (Inside (length cells)) rows → Parted rows (λ q. up_to q (row_of 0 clause).predicate) at
    → listed (insert rows at (row_of (length cells) clause)) (cells ++ clause) p n ≡ listed rows cells p n ++ listed_with clause p n
listed_more cells clause rows at p n h w =
    let f = is_for p n in
    let r = row_of (length cells) clause in
    ap (map (clause_of (cells ++ clause))) (kept_row p n at rows r w)
    ∙ (map-append (clause_of (cells ++ clause)) (filter f rows) (filter f (r ∷ []))
    ∙ (ap (λ cs. cs ++ map (clause_of (cells ++ clause)) (filter f (r ∷ []))) (clauses_stay cells clause (filter f rows) (All-filter f (Inside (length cells)) rows h))
    ∙ ap (λ cs. listed rows cells p n ++ cs) (last_listed (f r) cells clause)))
