use Rattle.std.proofs.Common.{◌-◌, decimal, append_assoc, ◌≡◌, ℕ, ◌<◌, ◌≤◌, true, false, List, [], ◌∷◌, ◌++◌, length, Ok, Err, Result, sym, refl, ap, ◌∙◌, arith, codes, inl, inr}
use Rattle.std.proofs.lemmas.Bool.{cases_lt, lt-ltb, le-leb, lt-leb, le-ltb}
use Rattle.std.specs.Prelude.{slice_index_or, is_err}
use Rattle.terms.specs.declared.Cell.{Cell}
use Rattle.clauses.specs.Clauses.{Wrote, spliced, renamed}
use Rattle.clauses.specs.declared.Refusal.{Refusal}
use Rattle.clauses.specs.declared.Refusal.TheVariants.{OutputShort, ClauseNumber}
use Rattle.record_cases.specs.Shown.{blank, said, three, fact_shown, first_shown, facts_shown}

abbrev pub three_blanks : List Cell
three_blanks = blank ∷ blank ∷ blank ∷ []

pub shown_refused : (list : List (List Cell)) (i : ℕ) (before after : List Cell) (r : Result ℕ Refusal) → length before ≡ 3 → Wrote list i 0 0 before after r → is_err r ≡ true
    → fact_shown list i ≡ codes " refused"
unfolding fact_shown
shown_refused list i before after (Ok n) l w e = cc
shown_refused list i before after (Err ClauseNumber) l w e =
    let h : length list ≤ i = elim (cases_lt i (length list)) [ inl l ↦ absurd (w.0 l (omega arith)) | inr g ↦ g ] in
    rw (le-ltb i (length list) h) refl
shown_refused list i before after (Err OutputShort) l w e =
    let h : 3 < length (slice_index_or list i []) = omega (arith, w.2) in
    let k = lt-ltb i (length list) w.0 in
    rw (k, lt-leb (length (slice_index_or list i [])) 3 h) refl

pub shown_said : (list : List (List Cell)) (i : ℕ) (before after : List Cell) (r : Result ℕ Refusal) → before ≡ three_blanks → Wrote list i 0 0 before after r → is_err r ≡ false
    → fact_shown list i ≡ said (slice_index_or after 1 blank) (slice_index_or after 2 blank)
unfolding fact_shown
shown_said list i before after (Err e) l w f = cc
shown_said list i before after (Ok n) l w f =
    let b : length before ≡ 3 = ap length l in
    let h : length (slice_index_or list i []) ≤ 3 = omega (arith, w.2, w.3) in
    let a : after ≡ three (slice_index_or list i []) = w.4 ∙ ap (λ b. spliced b 0 (renamed 0 (slice_index_or list i []))) l in
    rw (lt-ltb i (length list) w.0, le-leb (length (slice_index_or list i [])) 3 h) (ap (λ o. said (slice_index_or o 1 blank) (slice_index_or o 2 blank)) (sym a))

-- the count, and what follows it
count_then : (v d a : List ℕ) → v ++ (codes " | " ++ d) ++ a ≡ v ++ (codes " | " ++ (d ++ a))
count_then v d a = append_assoc v (codes " | " ++ d) a ∙ ap (λ x. v ++ x) (append_assoc (codes " | ") d a)

pub facts_few : (list : List (List Cell)) (n k : ℕ) (v w x : List ℕ) → n ≡ length list → n ≤ 16 → k ≡ n → w ≡ v ++ (codes " | " ++ decimal n) → x ≡ w ++ first_shown list k
    → x ≡ v ++ facts_shown list
unfolding facts_shown
facts_few list n k v w x e l m a b =
    let h : length list ≤ 16 = omega arith in
    let c : w ≡ v ++ (codes " | " ++ decimal (length list)) = a ∙ ap (λ j. v ++ (codes " | " ++ decimal j)) e in
    let d : x ≡ w ++ first_shown list (length list) = b ∙ ap (λ j. w ++ first_shown list j) (m ∙ e) in
    rw (le-ltb 16 (length list) h) (d ∙ (ap (λ y. y ++ first_shown list (length list)) c ∙ count_then v (decimal (length list)) (first_shown list (length list))))

pub facts_many : (list : List (List Cell)) (n : ℕ) (v w x y : List ℕ) → n ≡ length list → 16 < n → w ≡ v ++ (codes " | " ++ decimal n) → x ≡ w ++ fact_shown list (n - 1)
    → y ≡ x ++ fact_shown list n → y ≡ v ++ facts_shown list
unfolding facts_shown
facts_many list n v w x y e l a b c =
    let h : 16 < length list = omega arith in
    let m = length list in
    let a' : w ≡ v ++ (codes " | " ++ decimal m) = a ∙ ap (λ j. v ++ (codes " | " ++ decimal j)) e in
    let b' : x ≡ w ++ fact_shown list (m - 1) = b ∙ ap (λ j. w ++ fact_shown list (j - 1)) e in
    let c' : y ≡ x ++ fact_shown list m = c ∙ ap (λ j. x ++ fact_shown list j) e in
    rw (lt-ltb 16 m h)
    (c' ∙ (ap (λ z. z ++ fact_shown list m) b'
    ∙ (append_assoc w (fact_shown list (m - 1)) (fact_shown list m)
    ∙ (ap (λ z. z ++ (fact_shown list (m - 1) ++ fact_shown list m)) a' ∙ count_then v (decimal m) (fact_shown list (m - 1) ++ fact_shown list m)))))
