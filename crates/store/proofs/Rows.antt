-- Marks that rise and never pass the entries, as one is made or dropped.
use Rattle.std.proofs.Common.{◌≡◌, ℕ, ◌+◌, ◌-◌, ◌<◌, ◌≤◌, List, [], ◌∷◌, ◌++◌, length, get_or, take, sym, refl, ap, ◌∙◌, ⊎_elim, arith}
use Rattle.std.proofs.lemmas.List.{length_push, length-take-le, take_at, get_or_append_left, get_or_push, get_or-take}
use Rattle.std.proofs.lemmas.Bool.{cases_eq}
use Rattle.terms.specs.declared.Cell.{Cell}
use Rattle.store.specs.Model.{Model, but_last, newest}

pub same_model : {es fs : List (List Cell)} {ms ns : List ℕ} → es ≡ fs → ms ≡ ns
    → ◌≡◌ {A = Model} (record { entries = es; marks = ms }) (record { entries = fs; marks = ns })
same_model p q = cc

-- the marks rise, and none is above n
pub record Rising (ms : List ℕ) (n : ℕ) : Type 0 where
  pub rising : (i j : ℕ) → i ≤ j → j < length ms → get_or ms i 0 ≤ get_or ms j 0
  pub within : (k : ℕ) → k < length ms → get_or ms k 0 ≤ n

-- a new mark is at least as high as the others
module _ (ms : List ℕ) (n : ℕ) (w : Rising ms n) where
  p : length (ms ++ (n ∷ [])) ≡ length ms + 1
  p = length_push ms n

  inside : (k : ℕ) → k < length (ms ++ (n ∷ [])) → get_or (ms ++ (n ∷ [])) k 0 ≤ n
  inside k l =
      ⊎_elim (λ e. omega (arith, get_or_push ms n 0 k (sym e)))
      (λ ne. let lt : k < length ms = omega (arith, p, ne) in omega (arith, get_or_append_left ms (n ∷ []) 0 k lt, w.within k lt)) (cases_eq k (length ms))

  rises : (i j : ℕ) → i ≤ j → j < length (ms ++ (n ∷ [])) → get_or (ms ++ (n ∷ [])) i 0 ≤ get_or (ms ++ (n ∷ [])) j 0
  rises i j q l =
      ⊎_elim (λ e. omega (arith, get_or_push ms n 0 j (sym e), inside i (omega arith)))
      (λ ne.
      let lt : j < length ms = omega (arith, p, ne) in
      omega (arith, get_or_append_left ms (n ∷ []) 0 j lt, get_or_append_left ms (n ∷ []) 0 i (omega arith), w.rising i j q lt))
      (cases_eq j (length ms))

  pub rising_more : Rising (ms ++ (n ∷ [])) n
  rising_more = record { rising = rises; within = inside }

pub length_but_last : (ms : List ℕ) → length (but_last ms) ≡ length ms - 1
length_but_last ms = length-take-le (length ms - 1) ms (omega arith)

get_or_but_last : (ms : List ℕ) (k : ℕ) → k < length (but_last ms) → get_or (but_last ms) k 0 ≡ get_or ms k 0
get_or_but_last ms k h = get_or-take (length ms - 1) ms k 0 (omega (arith, length_but_last ms))

-- without the newest, all others are no higher than it
module _ (ms : List ℕ) (n : ℕ) (w : Rising ms n) where
  pub rising_less : Rising (but_last ms) n
  rising_less = record {
    rising = λ i j q l. omega (arith, get_or_but_last ms i (omega arith), get_or_but_last ms j l, w.rising i j q (omega (arith, length_but_last ms)));
    within = λ k l. omega (arith, get_or_but_last ms k l, w.within k (omega (arith, length_but_last ms)));
  }

  pub rising_back : Rising (but_last ms) (newest ms)
  rising_back = record {
    rising = rising_less.rising;
    within = λ k l. omega (arith, get_or_but_last ms k l, w.rising k (length ms - 1) (omega (arith, length_but_last ms)) (omega (arith, length_but_last ms)));
  }

  pub newest_within : 0 < length ms → newest ms ≤ n
  newest_within h = w.within (length ms - 1) (omega arith)

-- a list whose last element is taken
pub last_taken : (ms ns : List ℕ) (n : ℕ) → ms ≡ ns ++ (n ∷ []) → (ns ≡ but_last ms) × (n ≡ newest ms)
last_taken ms ns n e =
    let l : length ms ≡ length ns + 1 = ap length e ∙ length_push ns n in
    let k : length ms - 1 ≡ length ns = omega arith in (
      sym (ap (λ (j : ℕ). take j ms) k ∙ (ap (take (length ns)) e ∙ take_at ns (n ∷ []) (length ns) refl)),
      sym (ap (λ (j : ℕ). get_or ms j 0) k ∙ (ap (λ (xs : List ℕ). get_or xs (length ns) 0) e ∙ get_or_push ns n 0 (length ns) refl)),
    )
