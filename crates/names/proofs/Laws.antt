use Rattle.std.proofs.Common.{◌≡◌, ℕ, zero, suc, ◌-◌, ◌<◌, List, [], ◌∷◌, ◌++◌, length, get_or, sym, refl, ap, ◌∙◌, subst, inl, inr, le_of_suc-le-suc, not-suc-le-zero, arith}
use Rattle.std.proofs.lemmas.List.{length-append, get_or_append_left, get_or-append_right}
use Rattle.std.proofs.lemmas.Bool.{cases_lt}

-- what holds of each element of two lists holds of each element of the one after the other
pub each_joined : {X : Type 0} (P : X → Type 0) (xs ys zs : List X) (n m : ℕ) → zs ≡ xs ++ ys → n ≡ length xs → m ≡ length zs
    → ((k : ℕ) (d : X) → k < n → P (get_or xs k d)) → ((k : ℕ) (d : X) → k < length ys → P (get_or ys k d))
    → (k : ℕ) (d : X) → k < m → P (get_or zs k d)
each_joined P xs ys zs n m e en em p q k d h =
    let l = length-append xs ys in
    let z = ap length e in
    elim (cases_lt k (length xs)) [
      | inl b ↦ subst P (sym (ap (λ t. get_or t k d) e ∙ get_or_append_left xs ys d k b)) (p k d (omega arith))
      | inr b ↦ subst P (sym (ap (λ t. get_or t k d) e ∙ get_or-append_right xs ys (length xs) k d refl b)) (q (k - length xs) d (omega arith))
    ]

pub each_one : {X : Type 0} (P : X → Type 0) (x : X) → P x → (k : ℕ) (d : X) → k < 1 → P (get_or (x ∷ []) k d)
each_one P x p zero d h = p
each_one P x p (suc k) d h = absurd (not-suc-le-zero (le_of_suc-le-suc h))
