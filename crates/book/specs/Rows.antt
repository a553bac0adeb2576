-- Rows in the order of their predicates.
use Rattle.std.specs.Prelude.{Some, None, Option, MatchOption, cond, slice_get, suc, zero, ◌≡◌, ℕ, ◌+◌, ◌-◌, ◌<◌, ◌≤◌, Bool, true, false, ◌⊎◌, List, [], ◌∷◌, ◌++◌, length, get_or, take, drop, All, filter, slice_index_or, refl}
use Rattle.std.proofs.Common.{arith, sym, ◌∙◌, ap, subst, inl, inr}
use Rattle.std.specs.List.{insert, between}
use Rattle.std.proofs.lemmas.List.Elements.{filter-append, All-append, All-cons, All-drop, All-from_get_or, All-get_or, All-weaker, All-head, All-tail, All-take}
use Rattle.std.proofs.lemmas.List.Edits.{split_between, length-between, get_or-between, length-insert, get_or-insert_below, get_or-insert_at, get_or-insert_above}
use Rattle.std.proofs.lemmas.List.{append-nil, take-append-drop, get_or-take, get_or-drop, length-drop, length-take-le}
use Rattle.std.proofs.lemmas.Bool.{cases_Bool, cases_lt, cases_order, cond-true, cond-false, both_ways}
use Rattle.std.proofs.lemmas.Bool.Decides.{nat_tests}
use Rattle.std.specs.List.Sorted.{IsPartitionedBy, IsPartitionPoint}
use Rattle.std.specs.Bool.{then_some}
use Rattle.std.proofs.lemmas.Option.{slice_get_cases, MatchOption-at_some, MatchOption-at_none}
use Rattle.book.specs.declared.Row.{Row}
use Rattle.clauses.specs.declared.Predicate.{Predicate}
use Rattle.book.specs.Fit.{before, up_to, Rising, Parted, From}
use Rattle.book.specs.Meaning.{is_for}

kept_none : {X : Type 0} (p : X → Bool) (xs : List X) → All (λ x. p x ≡ false) xs → filter p xs ≡ []
kept_none p [] a = refl
kept_none p (x ∷ xs) a = cond-false (p x) _ _ (All-head (λ x. p x ≡ false) x xs a) ∙ kept_none p xs (All-tail (λ x. p x ≡ false) x xs a)

kept_every : {X : Type 0} (p : X → Bool) (xs : List X) → All (λ x. p x ≡ true) xs → filter p xs ≡ xs
kept_every p [] a = refl
kept_every p (x ∷ xs) a = cond-true (p x) _ _ (All-head (λ x. p x ≡ true) x xs a) ∙ ap (λ ys. x ∷ ys) (kept_every p xs (All-tail (λ x. p x ≡ true) x xs a))

-- one more element, after all that pass
kept_inserted : {X : Type 0} (p : X → Bool) (xs : List X) (at : ℕ) (y : X) → (p y ≡ true → All (λ x. p x ≡ false) (drop at xs))
    → filter p (insert xs at y) ≡ filter p xs ++ filter p (y ∷ [])
kept_inserted p xs at y h =
    let front = filter p (take at xs) in
    let back = filter p (drop at xs) in
    let whole : filter p xs ≡ front ++ back = ap (filter p) (sym (take-append-drop at xs)) ∙ filter-append p (take at xs) (drop at xs) in
    filter-append p (take at xs) (y ∷ drop at xs)
    ∙ elim (cases_Bool (p y)) [
      | inl e ↦
          let none : back ≡ [] = kept_none p (drop at xs) (h e) in
          ap (λ zs. front ++ zs) (cond-true (p y) (y ∷ back) back e ∙ ap (λ zs. y ∷ zs) none)
          ∙ sym (ap (λ zs. filter p xs ++ zs) (cond-true (p y) (y ∷ []) [] e) ∙ ap (λ zs. zs ++ y ∷ []) (whole ∙ (ap (λ zs. front ++ zs) none ∙ append-nil front)))
      | inr e ↦
          ap (λ zs. front ++ zs) (cond-false (p y) (y ∷ back) back e)
          ∙ sym (ap (λ zs. filter p xs ++ zs) (cond-false (p y) (y ∷ []) [] e) ∙ (append-nil (filter p xs) ∙ whole))
    ]

abbrev pub no_row : Row
no_row = record { predicate = record { symbol = 0; arity = 0 }; from = 0; len = 0 }

abbrev predicate_of : ℕ → ℕ → Predicate
predicate_of p n = record { symbol = p; arity = n }

-- what the order says of one predicate's rows
not_before : (p n : ℕ) (r : Row) → before r.predicate (predicate_of p n) ≡ true → is_for p n r ≡ false
not_before p n r e = grind (arith, nat_tests)

not_after : (p n : ℕ) (r : Row) → up_to r.predicate (predicate_of p n) ≡ false → is_for p n r ≡ false
not_after p n r e = grind (arith, nat_tests)

for_between : (p n : ℕ) (r : Row) → before r.predicate (predicate_of p n) ≡ false → up_to r.predicate (predicate_of p n) ≡ true → is_for p n r ≡ true
for_between p n r e f = grind (arith, nat_tests)

up_to-own : (p n : ℕ) (r : Row) → is_for p n r ≡ true → up_to r.predicate (predicate_of p n) ≡ true
up_to-own p n r e = grind (arith, nat_tests)

not_own : (p n : ℕ) (r : Row) → before r.predicate (predicate_of p n) ≡ false → is_for p n r ≡ false → up_to r.predicate (predicate_of p n) ≡ false
not_own p n r e f = grind (arith, nat_tests)

for_other : (p n : ℕ) (q r : Row) → is_for p n r ≡ true → up_to q.predicate r.predicate ≡ false → is_for p n q ≡ false
for_other p n q r e f = grind (arith, nat_tests)

up_to-itself : (p : Predicate) → up_to p p ≡ true
up_to-itself p = grind (arith, nat_tests)

up_to-before : (q p : Predicate) → before q p ≡ true → up_to q p ≡ true
up_to-before q p e = grind (arith, nat_tests)

up_to-or_other : (q p : Predicate) → up_to q p ≡ false → up_to p q ≡ true
up_to-or_other q p e = grind (arith, nat_tests)

pub up_to-joined : (q p r : Predicate) → up_to q p ≡ true → up_to p r ≡ true → up_to q r ≡ true
up_to-joined q p r e f = grind (arith, nat_tests)

pub before-joined : (q p r : Predicate) → up_to q p ≡ true → before p r ≡ true → before q r ≡ true
before-joined q p r e f = grind (arith, nat_tests)

-- the row of one clause more comes after those of its predicate
pub kept_row : (p n at : ℕ) (rows : List Row) (r : Row) → Parted rows (λ q. up_to q r.predicate) at → filter (is_for p n) (insert rows at r) ≡ filter (is_for p n) rows ++ filter (is_for p n) (r ∷ [])
kept_row p n at rows r w =
    kept_inserted (is_for p n) rows at r
    (λ e. All-from_get_or (λ x. is_for p n x ≡ false) (drop at rows) no_row
    (λ i h. let l = length-drop at rows in subst (λ x. is_for p n x ≡ false) (sym (get_or-drop at rows i no_row))
    (for_other p n (slice_index_or rows (at + i) no_row) r e (w.above (at + i) no_row (omega arith) (omega arith)))))

-- the rows of a predicate stand together, between two places
module _ (p n a b : ℕ) (rows : List Row) (u : Parted rows (λ q. before q (predicate_of p n)) a) (v : Parted rows (λ q. up_to q (predicate_of p n)) b) where
  pub parted_order : a ≤ b
  parted_order =
      elim (cases_order a b) [
        | inl e ↦ omega arith
        | inr (inl l) ↦ omega arith
        | inr (inr l) ↦
            let m = u.most in
            let x = up_to-before (slice_index_or rows b no_row).predicate (predicate_of p n) (u.below b no_row l) in
            let y = v.above b no_row (omega arith) (omega arith) in
            absurd (both_ways (up_to (slice_index_or rows b no_row).predicate (predicate_of p n)) y x)
      ]

  pub kept_range : filter (is_for p n) rows ≡ between a b rows
  kept_range =
      let f = is_for p n in
      let o = parted_order in
      let ma = u.most in
      let mb = v.most in
      let first : filter f (take a rows) ≡ [] = kept_none f (take a rows) (All-from_get_or (λ x. f x ≡ false) (take a rows) no_row
      (λ i l. let k = length-take-le a rows ma in let q : i < a = omega arith in
      subst (λ x. f x ≡ false) (sym (get_or-take a rows i no_row q)) (not_before p n (slice_index_or rows i no_row) (u.below i no_row q)))) in
      let last : filter f (drop b rows) ≡ [] = kept_none f (drop b rows) (All-from_get_or (λ x. f x ≡ false) (drop b rows) no_row
      (λ i l. let k = length-drop b rows in
      subst (λ x. f x ≡ false) (sym (get_or-drop b rows i no_row)) (not_after p n (slice_index_or rows (b + i) no_row) (v.above (b + i) no_row (omega arith) (omega arith))))) in
      let middle : filter f (between a b rows) ≡ between a b rows = kept_every f (between a b rows) (All-from_get_or (λ x. f x ≡ true) (between a b rows) no_row
      (λ i l. let k = length-between rows a b mb in let q : a + i < b = omega arith in
      subst (λ x. f x ≡ true) (sym (get_or-between rows a b i no_row q))
      (for_between p n (slice_index_or rows (a + i) no_row) (u.above (a + i) no_row (omega arith) (omega arith)) (v.below (a + i) no_row q)))) in
      ap (filter f) (split_between rows a b o)
      ∙ (filter-append f (take a rows) (between a b rows ++ drop b rows)
      ∙ (ap (λ zs. zs ++ filter f (between a b rows ++ drop b rows)) first
      ∙ (filter-append f (between a b rows) (drop b rows)
      ∙ (ap (λ zs. filter f (between a b rows) ++ zs) last ∙ (append-nil (filter f (between a b rows)) ∙ middle)))))

-- where each element is after one was put in
pub inserted_cases : {X : Type 0} (xs : List X) (i : ℕ) (y d : X) (k : ℕ) → i ≤ length xs
    → ((k < i) × (slice_index_or (insert xs i y) k d ≡ slice_index_or xs k d)) ⊎ (((k ≡ i) × (slice_index_or (insert xs i y) k d ≡ y)) ⊎ ((i < k) × (slice_index_or (insert xs i y) k d ≡ slice_index_or xs (k - 1) d)))
inserted_cases xs i y d k h =
    elim (cases_order k i) [
      | inl e ↦ inr (inl (e, ap (λ j. get_or (insert xs i y) j d) e ∙ get_or-insert_at xs i y d h))
      | inr (inl l) ↦ inl (l, get_or-insert_below xs i y d k l h)
      | inr (inr l) ↦ let e : k ≡ k - 1 + 1 = omega arith in inr (inr (l, ap (λ j. get_or (insert xs i y) j d) e ∙ get_or-insert_above xs i y d (k - 1) (omega arith) h))
    ]

pub all_inserted : {X : Type 0} (P : X → Type 0) (xs : List X) (i : ℕ) (y : X) → All P xs → P y → All P (insert xs i y)
all_inserted P xs i y a p = All-append P (take i xs) (y ∷ drop i xs) (All-take P i xs a) (All-cons P y (drop i xs) p (All-drop P i xs a))

pub far : (rows : List Row) → Rising rows → (i j : ℕ) (d : Row) → i ≤ j → j < length rows → up_to (slice_index_or rows i d).predicate (slice_index_or rows j d).predicate ≡ true
far rows s i j d h l =
    let e : i + (j - i) ≡ j = omega arith in
    subst (λ m. up_to (slice_index_or rows i d).predicate (slice_index_or rows m d).predicate ≡ true) e (s i (j - i) d (omega arith))

-- a test that holds of all before a predicate for which it holds parts the rows
pub parted_by : (rows : List Row) (test : Predicate → Bool) → Rising rows → ((q p : Predicate) → up_to q p ≡ true → test p ≡ true → test q ≡ true) → (xs : List Row) → xs ≡ rows
    → IsPartitionedBy (λ r. test r.predicate) xs
parted_by rows test s joined xs e = subst (IsPartitionedBy (λ r. test r.predicate)) (sym e) (λ i j d h l k. joined _ _ (far rows s i j d h l) k)

pub parted_from : (rows : List Row) (test : Predicate → Bool) (at : ℕ) (xs : List Row) → xs ≡ rows → at ≤ length xs → IsPartitionPoint (λ r. test r.predicate ≡ true) (λ r. test r.predicate ≡ false) xs at
    → Parted rows test at
parted_from rows test at xs e m w = subst (λ ys. Parted ys test at) e (record { most = m; below = λ k d h. w.0 k d (omega arith) h; above = w.1 })

-- where the rows stand in order, they do with one more after those of its predicate
rising_inserted : (rows : List Row) (at : ℕ) (r : Row) → Rising rows → Parted rows (λ q. up_to q r.predicate) at
    → (i j : ℕ) (d : Row) → i ≤ j → j < length rows + 1 → up_to (slice_index_or (insert rows at r) i d).predicate (slice_index_or (insert rows at r) j d).predicate ≡ true
rising_inserted rows at r s' w i j d h l =
    let s = far rows s' in
    let m = w.most in
    elim (inserted_cases rows at r d i m) [
      | inl (x0, x) ↦
          elim (inserted_cases rows at r d j m) [
            | inl (y0, y) ↦ rw (x, y) (s i j d h (omega arith))
            | inr (inl (y0, y)) ↦ rw (x, y) (w.below i d x0)
            | inr (inr (y0, y)) ↦ rw (x, y) (s i (j - 1) d (omega arith) (omega arith))
          ]
      | inr (inl (x0, x)) ↦
          elim (inserted_cases rows at r d j m) [
            | inl (y0, y) ↦ absurd (omega arith)
            | inr (inl (y0, y)) ↦ rw (x, y) (up_to-itself r.predicate)
            | inr (inr (y0, y)) ↦ rw (x, y) (up_to-or_other (slice_index_or rows (j - 1) d).predicate r.predicate (w.above (j - 1) d (omega arith) (omega arith)))
          ]
      | inr (inr (x0, x)) ↦
          elim (inserted_cases rows at r d j m) [
            | inl (y0, y) ↦ absurd (omega arith)
            | inr (inl (y0, y)) ↦ absurd (omega arith)
            | inr (inr (y0, y)) ↦ rw (x, y) (s (i - 1) (j - 1) d (omega arith) (omega arith))
          ]
    ]

pub rising_more : (rows : List Row) (at : ℕ) (r : Row) → Rising rows → Parted rows (λ q. up_to q r.predicate) at → Rising (insert rows at r)
rising_more rows at r s w i k d l = let long = length-insert rows at r w.most in rising_inserted rows at r s w i (i + k) d (omega arith) (omega arith)

-- a row of another predicate is followed by none of the predicate
for_later : (p n : ℕ) (x y : Row) → before x.predicate (predicate_of p n) ≡ false → is_for p n x ≡ false → up_to x.predicate y.predicate ≡ true → is_for p n y ≡ false
for_later p n x y e f g = grind (arith, nat_tests)

-- the rows from a predicate's first on: its own stand first, and are all its rows
module _ (p n : ℕ) (rows rest : List Row) (w : From rows (predicate_of p n) rest) where
  pub parted_rest : Rising rows → IsPartitionedBy (is_for p n) rest
  parted_rest s =
      let a = w.first in
      let l = length-drop a rows in
      subst (IsPartitionedBy (is_for p n)) (sym w.after)
      (λ i j d o h k.
      let x = slice_index_or rows (a + i) d in
      let y = slice_index_or rows (a + j) d in
      let b = w.parted.above (a + i) d (omega arith) (omega arith) in
      let u = far rows s (a + i) (a + j) d (omega arith) (omega arith) in
      subst (λ z. is_for p n z ≡ true) (sym (get_or-drop a rows i d))
      (elim (cases_Bool (is_for p n x)) [
        | inl e ↦ e
        | inr e ↦ absurd (both_ways (is_for p n y) (for_later p n x y b e u) (subst (λ z. is_for p n z ≡ true) (get_or-drop a rows j d) k))
      ]))

  module _ (count : ℕ) (most : count ≤ length rest) (v : IsPartitionPoint (λ r. is_for p n r ≡ true) (λ r. is_for p n r ≡ false) rest count) where
    at_rest : (k : ℕ) (d : Row) → w.first ≤ k → slice_index_or rest (k - w.first) d ≡ slice_index_or rows k d
    at_rest k d h =
        let e : w.first + (k - w.first) ≡ k = omega arith in
        ap (λ xs. slice_index_or xs (k - w.first) d) w.after ∙ (get_or-drop w.first rows (k - w.first) d ∙ ap (λ m. slice_index_or rows m d) e)

    up_to_count : (k : ℕ) (d : Row) → k < w.first + count → up_to (slice_index_or rows k d).predicate (predicate_of p n) ≡ true
    up_to_count k d h =
        let r = slice_index_or rows k d in
        elim (cases_lt k w.first) [
          | inl l ↦ up_to-before r.predicate (predicate_of p n) (w.parted.below k d l)
          | inr l ↦
              let f : is_for p n r ≡ true = subst (λ x. is_for p n x ≡ true) (at_rest k d l) (v.0 (k - w.first) d (omega arith) (omega arith)) in
              up_to-own p n r f
        ]

    parted_rows : Parted rows (λ q. up_to q (predicate_of p n)) (w.first + count)
    parted_rows =
        let m = w.parted.most in
        let l : length rest ≡ length rows - w.first = ap length w.after ∙ length-drop w.first rows in
        record {
          most = omega arith;
          below = up_to_count;
          above = λ k d h o.
              not_own p n (slice_index_or rows k d) (w.parted.above k d (omega arith) o)
              (subst (λ x. is_for p n x ≡ false) (at_rest k d (omega arith)) (v.1 (k - w.first) d (omega arith) (omega arith)));
        }

    pub rows_found : take count rest ≡ filter (is_for p n) rows
    rows_found =
        let a = w.first in
        let e : count ≡ a + count - a = omega arith in
        ap (take count) w.after ∙ (ap (λ m. take m (drop a rows)) e ∙ sym (kept_range p n a (a + count) rows w.parted parted_rows))

-- what is found, if it is the predicate's
abbrev pub Passed : ℕ → ℕ → Option Row → Option Row → Type 0
Passed p n found o = MatchOption found (o ≡ None) (λ x. o ≡ then_some (is_for p n x) x)

none_passes : (p n : ℕ) (xs : List Row) (k : ℕ) (o : Option Row) → All (λ x. is_for p n x ≡ false) xs → Passed p n (slice_get xs k) o → o ≡ None
none_passes p n xs k o a h =
    elim ((slice_get_cases xs k).1) [
      | inl (x, l, s, g) ↦
          let e : is_for p n x ≡ false = subst (λ y. is_for p n y ≡ false) g (All-get_or (λ y. is_for p n y ≡ false) xs k x l a) in
          MatchOption-at_some (o ≡ None) (λ y. o ≡ then_some (is_for p n y) y) x s h ∙ ap (λ b. then_some b x) e
      | inr (l, s) ↦ MatchOption-at_none (o ≡ None) (λ y. o ≡ then_some (is_for p n y) y) s h
    ]

rising_tail : (x : Row) (xs : List Row) → Rising (x ∷ xs) → Rising xs
rising_tail x xs s i k d h = let e : suc i + k ≡ suc (i + k) = omega arith in subst (λ m. up_to (get_or xs i d).predicate (get_or (x ∷ xs) m d).predicate ≡ true) e (s (suc i) k d (omega arith))

rising_head : (x : Row) (xs : List Row) → Rising (x ∷ xs) → All (λ y. up_to x.predicate y.predicate ≡ true) xs
rising_head x xs s = All-from_get_or (λ y. up_to x.predicate y.predicate ≡ true) xs no_row (λ i h. let e : 0 + suc i ≡ suc i = omega arith in subst (λ m. up_to x.predicate (get_or (x ∷ xs) m no_row).predicate ≡ true) e (s 0 (suc i) no_row (omega arith)))

-- among rows that do not come before a predicate, its own come first
nth_for : (p n : ℕ) (xs : List Row) (k : ℕ) (o : Option Row) → Rising xs → All (λ x. before x.predicate (predicate_of p n) ≡ false) xs → Passed p n (slice_get xs k) o → o ≡ slice_get (filter (is_for p n) xs) k
nth_for p n [] k o s a h = h
nth_for p n (x ∷ xs) k o s a h =
    step (is_for p n x) refl k h (λ j g. nth_for p n xs j o (rising_tail x xs s) (All-tail (λ x. before x.predicate (predicate_of p n) ≡ false) x xs a) g)
  where
    step : (b : Bool) → is_for p n x ≡ b → (k : ℕ) → Passed p n (slice_get (x ∷ xs) k) o → ((j : ℕ) → Passed p n (slice_get xs j) o → o ≡ slice_get (filter (is_for p n) xs) j)
        → o ≡ slice_get (cond b (x ∷ filter (is_for p n) xs) (filter (is_for p n) xs)) k
    step true e zero h rest = h ∙ ap (λ b. then_some b x) e
    step true e (suc k) h rest = rest k h
    step false e k h rest =
        let b = All-head (λ x. before x.predicate (predicate_of p n) ≡ false) x xs a in
        let later : All (λ y. is_for p n y ≡ false) xs = All-weaker (λ y. up_to x.predicate y.predicate ≡ true) (λ y. is_for p n y ≡ false) (λ y u. for_later p n x y b e u) xs (rising_head x xs s) in
        none_passes p n (x ∷ xs) k o (All-cons (λ y. is_for p n y ≡ false) x xs e later) h ∙ ap (λ ys. slice_get ys k) (sym (kept_none (is_for p n) xs later))

-- what a filter of what was found gives
pub passed_from : (p n : ℕ) (found o : Option Row) (Gives : Row → Bool → Type 0) → MatchOption found (o ≡ None) (λ x. (b : Bool) × Gives x b × (o ≡ then_some b x)) → ((x : Row) (b : Bool) → Gives x b → b ≡ is_for p n x)
    → (sought : Option Row) → found ≡ sought → Passed p n sought o
passed_from p n found o Gives h g sought e = subst (λ f. Passed p n f o) e (step found h)
  where
    step : (f : Option Row) → MatchOption f (o ≡ None) (λ x. (b : Bool) × Gives x b × (o ≡ then_some b x)) → Passed p n f o
    step None h = h
    step (Some x) (b, q, k) = k ∙ ap (λ b. then_some b x) (g x b q)

-- the row of a number among the predicate's
pub row_found : (p n : ℕ) (rows rest : List Row) (k : ℕ) (o : Option Row) → Rising rows → From rows (predicate_of p n) rest → Passed p n (slice_get rest k) o → o ≡ slice_get (filter (is_for p n) rows) k
row_found p n rows rest k o s w h =
    let f = is_for p n in
    let a = w.first in
    let u = w.parted in
    let m = u.most in
    let ld = length-drop a rows in
    let none : filter f (take a rows) ≡ [] = kept_none f (take a rows) (All-from_get_or (λ x. f x ≡ false) (take a rows) no_row
    (λ i l. let t = length-take-le a rows m in let q : i < a = omega arith in
    subst (λ x. f x ≡ false) (sym (get_or-take a rows i no_row q)) (not_before p n (slice_index_or rows i no_row) (u.below i no_row q)))) in
    let whole : filter f rows ≡ filter f (drop a rows) = ap (filter f) (sym (take-append-drop a rows)) ∙ (filter-append f (take a rows) (drop a rows) ∙ ap (λ ys. ys ++ filter f (drop a rows)) none) in
    let rising : Rising (drop a rows) = λ i j d l.
    rw (get_or-drop a rows i d, get_or-drop a rows (i + j) d) (far rows s (a + i) (a + (i + j)) d (omega arith) (omega arith)) in
    let past : All (λ x. before x.predicate (predicate_of p n) ≡ false) (drop a rows) = All-from_get_or (λ x. before x.predicate (predicate_of p n) ≡ false) (drop a rows) no_row
    (λ i l. subst (λ (x : Row). before x.predicate (predicate_of p n) ≡ false) (sym (get_or-drop a rows i no_row)) (u.above (a + i) no_row (omega arith) (omega arith))) in
    nth_for p n (drop a rows) k o rising past (subst (λ ys. Passed p n (slice_get ys k) o) w.after h) ∙ ap (λ ys. slice_get ys k) (sym whole)
