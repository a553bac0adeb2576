use Rattle.std.proofs.Common.{◌≡◌, ℕ, ◌+◌, ◌-◌, ◌<◌, ◌≤◌, List, [], ◌∷◌, reverse, length, get_or, take, set, Some, None, Option, MatchOption, ◌⊎◌, inl, inr, subst, sym, refl, ap, ◌∙◌, arith}
use Rattle.std.proofs.lemmas.List.{take_more, take_more_set, reverse-append, length-reverse, length-take-le, get_or-take}
use Rattle.std.specs.List.{slice_get}
use Rattle.std.proofs.lemmas.Option.{slice_get_cases}
use Rattle.unification.specs.Held.{newest}

pub newest_none : {A : Type 0} (xs : List A) → newest 0 xs ≡ []
unfolding newest
newest_none xs = refl

pub newest_push : {A : Type 0} (n : ℕ) (xs : List A) (x : A) → n < length xs → newest (n + 1) (set xs n x) ≡ x ∷ newest n xs
unfolding newest
newest_push n xs x h = ap reverse (take_more_set xs n x h) ∙ reverse-append (take n xs) (x ∷ [])

pub newest_pop : {A : Type 0} (n : ℕ) (xs : List A) (d : A) → 0 < n → n ≤ length xs → newest n xs ≡ get_or xs (n - 1) d ∷ newest (n - 1) xs
unfolding newest
newest_pop n xs d p h =
    let e : n ≡ (n - 1) + 1 = omega arith in
    let k : n - 1 < length xs = omega arith in
    ap (λ (m : ℕ). reverse (take m xs)) e ∙ (ap reverse (take_more xs (n - 1) d k) ∙ reverse-append (take (n - 1) xs) (get_or xs (n - 1) d ∷ []))

pub length_newest : {A : Type 0} (n : ℕ) (xs : List A) → n ≤ length xs → length (newest n xs) ≡ n
unfolding newest
length_newest n xs h = length-reverse (take n xs) ∙ length-take-le n xs h

pub newest_zero : {A : Type 0} (n : ℕ) (xs : List A) → n ≡ 0 → newest n xs ≡ []
newest_zero n xs e = ap (λ (m : ℕ). newest m xs) e ∙ newest_none xs

pub newest_top : {A : Type 0} (n : ℕ) (xs : List A) (x : A) → 0 < n → n ≤ length xs → x ≡ get_or xs (n - 1) x → newest n xs ≡ x ∷ newest (n - 1) xs
newest_top n xs x p h e = newest_pop n xs x p h ∙ ap (λ y. y ∷ newest (n - 1) xs) (sym e)

-- the last of the first n elements, where there is one
pub newest_last : {A : Type 0} (n : ℕ) (xs : List A) → n ≤ length xs → (r : Option A) → r ≡ slice_get (take n xs) (length (take n xs) - 1) → MatchOption r (newest n xs ≡ []) (λ x. (rest : List A) × (newest n xs ≡ x ∷ rest))
newest_last {A = A} n xs h r e = go (slice_get_cases (take n xs) (length (take n xs) - 1)).1
  where
    go : ((x : A) × (length (take n xs) - 1 < length (take n xs)) × (slice_get (take n xs) (length (take n xs) - 1) ≡ Some x) × (get_or (take n xs) (length (take n xs) - 1) x ≡ x)) ⊎ ((length (take n xs) ≤ length (take n xs) - 1) × (slice_get (take n xs) (length (take n xs) - 1) ≡ None))
        → MatchOption r (newest n xs ≡ []) (λ x. (rest : List A) × (newest n xs ≡ x ∷ rest))
    go (inl (x, i, s, g)) =
        let k = length-take-le n xs h in let z : length (take n xs) - 1 ≡ n - 1 = omega arith in
        let x_is : x ≡ get_or xs (n - 1) x = sym g ∙ (ap (λ j. get_or (take n xs) j x) z ∙ get_or-take n xs (n - 1) x (omega arith)) in
        subst (λ (o : Option A). MatchOption o (newest n xs ≡ []) (λ x. (rest : List A) × (newest n xs ≡ x ∷ rest))) (sym (e ∙ s)) (newest (n - 1) xs, newest_top n xs x (omega arith) h x_is)
    go (inr (i, s)) =
        let k = length-take-le n xs h in
        subst (λ (o : Option A). MatchOption o (newest n xs ≡ []) (λ x. (rest : List A) × (newest n xs ≡ x ∷ rest))) (sym (e ∙ s)) (newest_zero n xs (omega arith))
