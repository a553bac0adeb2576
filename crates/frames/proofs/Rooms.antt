-- Lengths after a list is cut or grows.
use Rattle.std.proofs.Common.{◌≡◌, ℕ, ◌≤◌, List, length, take, ap, ◌∙◌, arith}
use Rattle.std.proofs.lemmas.List.{length-take}

-- a list that is cut is no longer than the cut
pub cut_short : {A : Type 0} (k n : ℕ) (xs ys : List A) → ys ≡ take n xs → n ≤ k → length ys ≤ k
cut_short k n xs ys h l = let a = ap length h ∙ length-take n xs in omega arith
