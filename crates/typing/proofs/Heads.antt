-- The variable that an equation is against something: how often y is it.
use mathlib.Core.Path.{◌≡◌, refl, ◌∙◌}
use mathlib.Core.Logic.{◌≢◌}
use mathlib.Core.List.{[], ◌∷◌, ◌++◌}
use Prim.Native.Nat.{ℕ, ◌+◌, ◌≤◌}
use native.Mathlib.Decide.{ℕ_discrete}
use native.Mathlib.Omega.{arith}
use Rattle.typing.specs.Terms.{Term, var, con, fun, Equation, Eqs, Subst, set, if, replace, replaces, count, count_in}
use Rattle.typing.specs.Rules.{Against, on_left, on_right, shown}
use Rattle.typing.proofs.Counts.{count_self, count_other, count_var}

abbrev pub lone : ℕ → Term → ℕ
lone y (var x) = count y (var x)
lone y (con f v) = 0
lone y (fun s ts) = 0

abbrev pub head : ℕ → Term → Term → ℕ
head y (var x) t = count y (var x)
head y (con f v) t = lone y t
head y (fun s ts) t = lone y t

abbrev pub heads : ℕ → Eqs → ℕ
heads y [] = 0
heads y (e ∷ E) = head y e.left e.right + heads y E

pub head_against : (y : ℕ) {x : ℕ} {t : Term} {e : Equation} → Against x t e → head y e.left e.right ≡ count y (var x)
head_against y on_left = refl
head_against y (on_right {x = x} {t = t} n) = at t n
  where
    at : (t : Term) → ((z : ℕ) → t ≢ var z) → head y t (var x) ≡ count y (var x)
    at (var z) n = absurd (n z refl)
    at (con f v) n = refl
    at (fun s ts) n = refl

-- An equation is against one variable only.
pub one_variable : {x z : ℕ} {t u : Term} {e : Equation} → Against x t e → Against z u e → x ≡ z
one_variable {x} {z} a b = count_var x z (omega (arith, head_against x a, head_against x b, count_self x))

pub shown_against : {x : ℕ} {t : Term} {e : Equation} (θ : Subst) → Against x t e → shown e.left e.right θ ≡ set x t θ
shown_against θ on_left = refl
shown_against θ (on_right {x = x} {t = t} n) = at t n
  where
    at : (t : Term) → ((z : ℕ) → t ≢ var z) → shown t (var x) θ ≡ set x t θ
    at (var z) n = absurd (n z refl)
    at (con f v) n = refl
    at (fun s ts) n = refl

lone_count : (y : ℕ) (t : Term) → lone y t ≤ count y t
lone_count y (var x) = omega arith
lone_count y (con f v) = omega arith
lone_count y (fun s ts) = omega arith

head_count : (y : ℕ) (s t : Term) → head y s t ≤ count y s + count y t
head_count y (var x) t = omega arith
head_count y (con f v) t = omega (arith, lone_count y t)
head_count y (fun s ts) t = omega (arith, lone_count y t)

pub heads_count : (y : ℕ) (E : Eqs) → heads y E ≤ count_in y E
heads_count y [] = omega arith
heads_count y (e ∷ E) = omega (arith, head_count y e.left e.right, heads_count y E)

pub heads_append : (y : ℕ) (E F : Eqs) → heads y (E ++ F) ≡ heads y E + heads y F
heads_append y [] F = omega arith
heads_append y (e ∷ E) F = omega (arith, heads_append y E F)

-- Replacing another variable takes none of them away.
module _ (y x : ℕ) (t : Term) (n : y ≢ x) where
  lone_kept : (u : Term) → lone y u ≤ lone y (replace x t u)
  lone_kept (var z) = at (ℕ_discrete z x)
    where
      at : (d : Dec (z ≡ x)) → count y (var z) ≤ lone y (if d t (var z))
      at (yes p) = omega (arith, count_other y z (λ q. n (q ∙ p)))
      at (no k) = omega arith
  lone_kept (con f v) = omega arith
  lone_kept (fun s ts) = omega arith

  head_kept : (s u : Term) → head y s u ≤ head y (replace x t s) (replace x t u)
  head_kept (var z) u = at (ℕ_discrete z x)
    where
      at : (d : Dec (z ≡ x)) → count y (var z) ≤ head y (if d t (var z)) (replace x t u)
      at (yes p) = omega (arith, count_other y z (λ q. n (q ∙ p)))
      at (no k) = omega arith
  head_kept (con f v) u = lone_kept u
  head_kept (fun s ts) u = lone_kept u

  pub heads_kept : (E : Eqs) → heads y E ≤ heads y (replaces x t E)
  heads_kept [] = omega arith
  heads_kept (e ∷ E) = omega (arith, head_kept e.left e.right, heads_kept E)
