-- A book's rows as clauses.
use Rattle.std.specs.Prelude.{◌≡◌, ℕ, ◌+◌, ◌<◌, ◌≤◌, true, [], length, get_or, drop, vec_items, All, filter, ◌==◌, slice_get, slice_index_or, Option, MatchOption}
use Rattle.std.proofs.Common.{arith, sym, ◌∙◌, ap, subst, inl, inr}
use Rattle.std.proofs.lemmas.List.Elements.{All-get_or, All-take, All-drop, All-filter, filter_passes}
use Rattle.std.proofs.lemmas.Option.{slice_get_cases}
use Rattle.std.proofs.lemmas.Bool.{and_parts, eqb-true}
use Rattle.std.proofs.lemmas.List.{length-map, length-take-le, length-drop, get_or-map}
use Rattle.clauses.specs.Clauses.{Low, Slim, OfPredicate}
use Rattle.book.specs.declared.Row.{Row}
use Rattle.book.specs.declared.Book.{Book}
use Rattle.book.specs.declared.SealedBook.{SealedBook}
use Rattle.book.specs.Fit.{Inside, clause_of, is_clause, Right}
use Rattle.book.specs.Meaning.{is_for, open_clauses, book_clauses, Found}
use Rattle.book.specs.Forming.{right_formed}
use Rattle.book.specs.Kept.{kept_few}
use Rattle.book.specs.Rows.{no_row}

pub books_count : (b : Book) (p n : ℕ) → length (open_clauses b p n) ≡ length (filter (is_for p n) (vec_items b.rows))
books_count b p n = length-map (filter (is_for p n) (vec_items b.rows)) (clause_of (vec_items b.cells))

pub books_low : (b : Book) (r : Row) → All Low (clause_of (vec_items b.cells) r)
books_low b r = All-take Low r.len (drop r.from (vec_items b.cells)) (All-drop Low r.from (vec_items b.cells) b.low)

pub books_slim : (b : Book) (r : Row) → All Slim (clause_of (vec_items b.cells) r)
books_slim b r = All-take Slim r.len (drop r.from (vec_items b.cells)) (All-drop Slim r.from (vec_items b.cells) b.slim)

pub books_long : (b : Book) (r : Row) → r.from + r.len ≤ length (vec_items b.cells) → length (clause_of (vec_items b.cells) r) ≡ r.len
books_long b r h = length-take-le r.len (drop r.from (vec_items b.cells)) (simp length-drop (omega arith))

-- a row that stands among those of the predicate is that of the clause with its number
pub books_found : (b : Book) (p n number : ℕ) (r : Row) → number < length (filter (is_for p n) (vec_items b.rows)) → get_or (filter (is_for p n) (vec_items b.rows)) number r ≡ r → Found b p n number r
books_found b p n number r h e =
    let ks = filter (is_for p n) (vec_items b.rows) in
    let c = b.cells.ok.0 in
    let i : Inside b.cells.len r = subst (Inside b.cells.len) e (All-get_or (Inside b.cells.len) ks number r h (All-filter (is_for p n) (Inside b.cells.len) (vec_items b.rows) b.inside)) in
    let w : r.from + r.len ≤ length (vec_items b.cells) = let l = i.2 in omega arith in
    record {
      below = omega (arith, books_count b p n);
      clause = get_or-map (clause_of (vec_items b.cells)) ks number r [] h ∙ ap (clause_of (vec_items b.cells)) e;
      few = i.1;
      within = w;
      long = books_long b r w;
      low = books_low b r;
    }

pub books_row : (b : Book) (p n number : ℕ) (o : Option Row) → o ≡ slice_get (filter (is_for p n) (vec_items b.rows)) number
    → MatchOption o (length (open_clauses b p n) ≤ number) (λ w. Found b p n number w)
books_row b p n number o e =
    let c = books_count b p n in
    elim ((slice_get_cases (filter (is_for p n) (vec_items b.rows)) number).1) [
      | inl (r, l, s, g) ↦ subst (λ (q : Option Row). MatchOption q (length (open_clauses b p n) ≤ number) (λ w. Found b p n number w)) (sym (e ∙ s)) (books_found b p n number r l g)
      | inr (l, s) ↦ subst (λ (q : Option Row). MatchOption q (length (open_clauses b p n) ≤ number) (λ w. Found b p n number w)) (sym (e ∙ s)) (omega arith)
    ]

-- the rows that are kept are those of the predicate
kept_for : (p n : ℕ) (r : Row) → is_for p n r ≡ true → (r.predicate.symbol ≡ p) × (r.predicate.arity ≡ n)
kept_for p n r e = let w = and_parts (r.predicate.symbol == p) _ e in (eqb-true r.predicate.symbol p w.0, eqb-true r.predicate.arity n w.1)

pub books_formed : (s : SealedBook) (p n k : ℕ) → k < length (book_clauses s p n) → OfPredicate p n (slice_index_or (book_clauses s p n) k [])
books_formed s p n k h =
    let b = s.book in
    let rows = vec_items b.rows in
    let ks = filter (is_for p n) rows in
    let cells = vec_items b.cells in
    let r = get_or ks k no_row in
    let ec = b.cells.ok.0 in
    let l : k < length ks = omega (arith, books_count b p n) in
    let i : Inside b.cells.len r = All-get_or (Inside b.cells.len) ks k no_row l (All-filter (is_for p n) (Inside b.cells.len) rows b.inside) in
    let w : Right cells r = All-get_or (Right cells) ks k no_row l (All-filter (is_for p n) (Right cells) rows b.right) in
    let f = kept_for p n r (All-get_or (λ x. is_for p n x ≡ true) ks k no_row l (filter_passes (is_for p n) rows)) in
    let v : is_clause p n (clause_of cells r) ≡ true =
    ap (λ q. is_clause q n (clause_of cells r)) (sym f.0) ∙ (ap (λ m. is_clause r.predicate.symbol m (clause_of cells r)) (sym f.1) ∙ w) in
    let long = books_long b r (omega (arith, i.2)) in
    subst (OfPredicate p n) (sym (get_or-map (clause_of cells) ks k no_row [] l))
    (right_formed p n (clause_of cells r) v (omega (arith, i.0)) (omega (arith, i.1)) (books_low b r) (books_slim b r))

pub books_short : (s : SealedBook) (p n : ℕ) → length (book_clauses s p n) ≤ 65535
books_short s p n = let b = s.book in let e = b.rows.ok.0 in let f = b.few in omega (arith, books_count b p n, kept_few (is_for p n) (vec_items b.rows))
