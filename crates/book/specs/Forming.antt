-- A clause that was read is a clause of its row's predicate.
use Rattle.std.specs.Prelude.{◌≡◌, ℕ, suc, ◌+◌, ◌-◌, ◌<◌, ◌≤◌, true, not, ◌||◌, List, [], ◌∷◌, ◌++◌, length, Some, None, vec_items, All, Option, ◌==◌, nat_le, nat_lt, refl}
use Rattle.std.proofs.Common.{arith, sym, ap, subst, ◌∙◌, inl, inr}
use Rattle.std.specs.List.{insert}
use Rattle.std.proofs.lemmas.List.{length-append}
use Rattle.std.proofs.lemmas.List.Elements.{All-from_get_or, All-get_or, All-weaker}
use Rattle.std.proofs.lemmas.Bool.{and_parts, and_from, or_cases, or_left, or_right, cases_Bool, not-true, not_from_false, eqb-true, eq-eqb, both_ways, leb-true, le-leb, ltb-true, lt-ltb}
use Rattle.terms.specs.declared.Cell.{Cell}
use Rattle.terms.specs.Shape.{goals}
use Rattle.clauses.specs.Clauses.{Low, Slim, OfPredicate, vars_after, InOrder, head_of}
use Rattle.names.specs.declared.Names.{Names}
use Rattle.names.specs.Words.{names_of}
use Rattle.names.proofs.Tables.{length_words}
use Rattle.draft.specs.Spelled.{Spelled}
use Rattle.draft.specs.Sketch.{Sketch}
use Rattle.draft.specs.declared.Draft.{Draft}
use Rattle.draft.proofs.Numbered.{spelled_numbered}
use Rattle.draft.proofs.Wholes.{question_spelled}
use Rattle.book.specs.declared.Row.{Row}
use Rattle.book.specs.Fit.{Inside, clause_goals, in_order, is_clause, Right}
use Rattle.book.specs.Meaning.{row_of}
use Rattle.book.specs.Reading.{cells_from, Asked}
use Rattle.book.specs.Listing.{clause_stays, clause_added}
use Rattle.book.specs.Rows.{no_row, all_inserted}

-- the test of the order tells the order
order_told : (n : ℕ) (cs : List Cell) → in_order n cs ≡ true → InOrder n cs
order_told n [] e = tt
order_told n (c ∷ cs) e =
    let p = and_parts (not (c.tag == 0) || nat_le c.value n) (in_order (vars_after n c) cs) e in (
      λ t. elim (or_cases (not (c.tag == 0)) (nat_le c.value n) p.0) [
        | inl a ↦ absurd (both_ways (c.tag == 0) (not-true (c.tag == 0) a) (eq-eqb c.tag 0 t))
        | inr a ↦ leb-true c.value n a
      ],
      order_told (vars_after n c) cs p.1,
    )

order_tested : (n : ℕ) (cs : List Cell) → InOrder n cs → in_order n cs ≡ true
order_tested n [] o = refl
order_tested n (c ∷ cs) o =
    and_from (not (c.tag == 0) || nat_le c.value n) _
    (elim (cases_Bool (c.tag == 0)) [
      | inl a ↦ or_right (not (c.tag == 0)) _ (le-leb c.value n (o.0 (eqb-true c.tag 0 a)))
      | inr a ↦ or_left (not (c.tag == 0)) _ (not_from_false (c.tag == 0) a)
    ])
    (order_tested (vars_after n c) cs o.1)

goals_told : (o : Option ℕ) → clause_goals o ≡ true → ((b : ℕ) × ((o ≡ Some (suc b)) × (b ≤ 8)))
goals_told None e = let z : ◌≡◌ {A = ℕ} 0 1 = cc in absurd (omega arith)
goals_told (Some g) e =
    let p = and_parts (nat_lt 0 g) (nat_le g 9) e in
    let a = ltb-true 0 g p.0 in
    let b = leb-true g 9 p.1 in
    let s : g ≡ suc (g - 1) = omega arith in
    (g - 1, (ap Some s, omega arith))

goals_tested : (cs : List Cell) (n : ℕ) → goals 0 0 cs ≡ Some (1 + n) → n ≤ 8 → clause_goals (goals 0 0 cs) ≡ true
goals_tested cs n e h = ap clause_goals e ∙ and_from (nat_lt 0 (1 + n)) _ (lt-ltb 0 (1 + n) (omega arith)) (le-leb (1 + n) 9 (omega arith))

-- what the tables tell of a row is what a source owes
pub right_formed : (p n : ℕ) (cs : List Cell) → is_clause p n cs ≡ true → 0 < length cs → length cs ≤ 32 → All Low cs → All Slim cs → OfPredicate p n cs
unfolding is_clause
right_formed p n cs e some few low slim =
    let u = and_parts (clause_goals (goals 0 0 cs)) _ e in
    let v = and_parts (in_order 0 cs) _ u.1 in
    let w = and_parts ((head_of cs).value == p) _ v.1 in
    let g = goals_told (goals 0 0 cs) u.0 in
    record {
      formed = record { some = some; few = few; low = low; slim = slim };
      body = g.0;
      goal_list = g.1.0;
      eight = g.1.1;
      head = (eqb-true (head_of cs).value p w.0, eqb-true (head_of cs).arity n w.1);
      in_order = order_told 0 cs v.0;
    }

clause_tested : (cs : List Cell) → Spelled 1 cs → is_clause (head_of cs).value (head_of cs).arity cs ≡ true
unfolding is_clause
clause_tested cs p =
    and_from (clause_goals (goals 0 0 cs)) _ (goals_tested cs p.count p.goal_list p.eight)
    (and_from (in_order 0 cs) _ (order_tested 0 cs p.in_order)
    (and_from ((head_of cs).value == (head_of cs).value) _ (eq-eqb (head_of cs).value (head_of cs).value refl) (eq-eqb (head_of cs).arity (head_of cs).arity refl)))

-- a clause that was read is not empty
pub spelled_some : (cs : List Cell) → Spelled 1 cs → 0 < length cs
spelled_some [] p = let n : 0 ≡ 1 + p.count = cc p.goal_list in absurd (omega arith)
spelled_some (c ∷ cs) p = omega arith

-- the cells of a draft are those of symbols with few arguments
pub draft_slim : (d : Draft) → All Slim (vec_items d.cells)
draft_slim d = let n = d.cells.ok.0 in All-from_get_or Slim (vec_items d.cells) (record { tag = 0; form = 0; arity = 0; value = 0 }) (λ i h. d.slim i _ (omega arith))

-- a row is as it was with more cells after the others
right_stays : (cells more : List Cell) (r : Row) → Inside (length cells) r → Right cells r → Right (cells ++ more) r
right_stays cells more r h w = ap (is_clause r.predicate.symbol r.predicate.arity) (clause_stays cells more r h) ∙ w

-- the new row
right_added : (cells clause : List Cell) → Spelled 1 clause → Right (cells ++ clause) (row_of (length cells) clause)
right_added cells clause p = ap (is_clause (head_of clause).value (head_of clause).arity) (clause_added cells clause) ∙ clause_tested clause p

-- what holds of the rows holds of them with a new one and its cells
inside_more : (n m : ℕ) (r : Row) → n ≤ m → Inside n r → Inside m r
inside_more n m r h w = (w.0, w.1, let l = w.2 in omega arith)

pub inside_all : (cells clause : List Cell) (rows : List Row) (at : ℕ) → All (Inside (length cells)) rows → Spelled 1 clause → All (Inside (length (cells ++ clause))) (insert rows at (row_of (length cells) clause))
inside_all cells clause rows at inside p =
    let l = length-append cells clause in
    all_inserted (Inside (length (cells ++ clause))) rows at (row_of (length cells) clause)
    (All-weaker (Inside (length cells)) (Inside (length (cells ++ clause))) (λ r w. inside_more (length cells) (length (cells ++ clause)) r (omega arith) w) rows inside)
    (spelled_some clause p, p.few, omega arith)

both_hold : (P Q : Row → Type 0) (rows : List Row) → All P rows → All Q rows → All (λ r. P r × Q r) rows
both_hold P Q rows a b = All-from_get_or (λ r. P r × Q r) rows no_row (λ i h. (All-get_or P rows i no_row h a, All-get_or Q rows i no_row h b))

pub right_all : (cells clause : List Cell) (rows : List Row) (at : ℕ) → All (Inside (length cells)) rows → All (Right cells) rows → Spelled 1 clause
    → All (Right (cells ++ clause)) (insert rows at (row_of (length cells) clause))
right_all cells clause rows at inside right p =
    all_inserted (Right (cells ++ clause)) rows at (row_of (length cells) clause)
    (All-weaker (λ r. Inside (length cells) r × Right cells r) (Right (cells ++ clause)) (λ r w. right_stays cells clause r w.0 w.1) rows (both_hold (Inside (length cells)) (Right cells) rows inside right))
    (right_added cells clause p)

-- a book has few names, so their numbers are small
pub spelled_from : (h : ℕ) (text : List ℕ) (names : Names) (s : Sketch) → Spelled h s.cells → Spelled h (cells_from text names s)
spelled_from h text names s p =
    let n = length_words (vec_items names.bytes) (vec_items names.spans) in
    let k = names.spans.ok.0 in
    let f = names.few in
    spelled_numbered h text (names_of names) s.cells s.spans (omega arith) p

-- a question that was read is spelled as one
pub asked_spelled : (names : Names) (text : List ℕ) (at : ℕ) (d : Draft) → Asked names text at d → Spelled 0 (vec_items d.cells)
asked_spelled names text at d a = subst (Spelled 0) (sym a.cells) (spelled_from 0 text names a.sketch (question_spelled text at a.sketch a.question))
