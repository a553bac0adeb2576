-- How far bytes that pass a test go on.
use Rattle.std.proofs.Common.{◌≡◌, ℕ, zero, suc, ◌+◌, ◌≤◌, Bool, true, false, List, [], ◌∷◌, ◌++◌, length, take, refl, ap, ◌∙◌, inl, inr, zero-le, not-suc-le-zero, arith}
use Rattle.std.proofs.lemmas.Bool.{cond-true, cond-false, cases_Bool}
use Rattle.std.specs.List.{prefix_len}
use Rattle.lexis.specs.Spelt.{All}
use Rattle.lexis.specs.Spelt.All.{none, more}

pub front_yes : (p : ℕ → Bool) (b : ℕ) (bs : List ℕ) → p b ≡ true → prefix_len p (b ∷ bs) ≡ suc (prefix_len p bs)
front_yes p b bs e = let h : prefix_len p (b ∷ bs) ≡ 1 + prefix_len p bs = cond-true (p b) (1 + prefix_len p bs) 0 e in omega arith

pub front_no : (p : ℕ → Bool) (b : ℕ) (bs : List ℕ) → p b ≡ false → prefix_len p (b ∷ bs) ≡ 0
front_no p b bs e = cond-false (p b) (1 + prefix_len p bs) 0 e

pub front_nil : (p : ℕ → Bool) → prefix_len p [] ≡ 0
front_nil p = refl

-- bytes that all pass are passed
pub front_reach : (p : ℕ → Bool) (w rest : List ℕ) → All p w → length w ≤ prefix_len p (w ++ rest)
front_reach p w rest none = zero-le
front_reach p w rest (more {b = b} {bs = bs} e a) = omega (arith, front_yes p b (bs ++ rest) e, front_reach p bs rest a)

-- up to a byte that does not
pub front_exact : (p : ℕ → Bool) (w : List ℕ) (x : ℕ) (rest : List ℕ) → All p w → p x ≡ false → prefix_len p (w ++ x ∷ rest) ≡ length w
front_exact p w x rest none n = front_no p x rest n
front_exact p w x rest (more {b = b} {bs = bs} e a) n = front_yes p b (bs ++ x ∷ rest) e ∙ ap suc (front_exact p bs x rest a n)

pub front_all : (p : ℕ → Bool) (n : ℕ) (xs : List ℕ) → n ≤ prefix_len p xs → All p (take n xs)
front_all p zero xs h = none
front_all p (suc n) [] h = none
front_all p (suc n) (b ∷ bs) h =
    elim (cases_Bool (p b)) [
      | inl e ↦ more e (front_all p n bs (omega (arith, front_yes p b bs e)))
      | inr e ↦ let z : suc n ≤ 0 = omega (arith, front_no p b bs e) in absurd (not-suc-le-zero z)
    ]
