-- How often a variable stands somewhere, and what that decides.
use mathlib.Core.Path.{◌≡◌, refl, sym, ◌∙◌, ap, ap₂}
use mathlib.Core.Logic.{◌≢◌, ◌⊎◌, inl, inr}
use mathlib.Core.List.{[], ◌∷◌, ◌++◌}
use Prim.Native.Nat.{ℕ, ◌+◌, ◌≤◌}
use native.Mathlib.Decide.{ℕ_discrete, dec_le}
use native.Mathlib.Omega.{arith}
use Rattle.typing.specs.Terms.{Term, var, con, fun, Terms, none, more, arity, Equation, Eqs, arguments, Subst, apply, applies, if, set, replace, replaces, count, counts, count_in, Unifies}
use Rattle.typing.specs.Rules.{Against, on_left, on_right}

-- A question decided one way.
pub if_yes : {P A : Type 0} (d : Dec P) (a b : A) → P → if d a b ≡ a
if_yes (yes p) a b q = refl
if_yes (no n) a b q = absurd (n q)

pub if_no : {P A : Type 0} (d : Dec P) (a b : A) → ¬ P → if d a b ≡ b
if_no (yes p) a b q = absurd (q p)
if_no (no n) a b q = refl

pub count_self : (x : ℕ) → count x (var x) ≡ 1
count_self x = if_yes (ℕ_discrete x x) 1 0 refl

pub count_other : (x y : ℕ) → x ≢ y → count x (var y) ≡ 0
count_other x y n = if_no (ℕ_discrete x y) 1 0 n

-- The one variable of a variable.
pub count_var : (x y : ℕ) → 1 ≤ count x (var y) → x ≡ y
count_var x y = at (ℕ_discrete x y)
  where
    at : (d : Dec (x ≡ y)) → 1 ≤ if d 1 0 → x ≡ y
    at (yes p) h = p
    at (no n) h = absurd (omega arith)

pub one_of : (m n : ℕ) → 1 ≤ m + n → (1 ≤ m) ⊎ (1 ≤ n)
one_of m n h = at (dec_le 1 m)
  where
    at : Dec (1 ≤ m) → (1 ≤ m) ⊎ (1 ≤ n)
    at (yes p) = inl p
    at (no p) = inr (omega arith)

pub count_append : (x : ℕ) (E F : Eqs) → count_in x (E ++ F) ≡ count_in x E + count_in x F
count_append x [] F = omega arith
count_append x (e ∷ E) F = omega (arith, count_append x E F)

pub count_arguments : (x : ℕ) (ts us : Terms) → arity ts ≡ arity us → count_in x (arguments ts us) ≡ counts x ts + counts x us
count_arguments x none none a = omega arith
count_arguments x none (more u us) a = absurd (omega arith)
count_arguments x (more t ts) none a = absurd (omega arith)
count_arguments x (more t ts) (more u us) a = let q : arity ts ≡ arity us = omega arith in omega (arith, count_arguments x ts us q)

pub count_against : (y : ℕ) {x : ℕ} {t : Term} {e : Equation} → Against x t e → count y e.left + count y e.right ≡ count y (var x) + count y t
count_against y on_left = refl
count_against y (on_right n) = omega arith

-- Replacing x by a term without it leaves no x.
mutual
  count_gone : (x : ℕ) (t : Term) → count x t ≡ 0 → (u : Term) → count x (replace x t u) ≡ 0
  count_gone x t h (var y) = at (ℕ_discrete y x)
    where
      at : (d : Dec (y ≡ x)) → count x (if d t (var y)) ≡ 0
      at (yes p) = h
      at (no n) = count_other x y (λ p. n (sym p))
  count_gone x t h (con f v) = refl
  count_gone x t h (fun s ts) = counts_gone x t h ts

  counts_gone : (x : ℕ) (t : Term) → count x t ≡ 0 → (us : Terms) → counts x (applies (set x t var) us) ≡ 0
  counts_gone x t h none = refl
  counts_gone x t h (more u us) = omega (arith, count_gone x t h u, counts_gone x t h us)

pub count_gone_in : (x : ℕ) (t : Term) → count x t ≡ 0 → (E : Eqs) → count_in x (replaces x t E) ≡ 0
count_gone_in x t h [] = refl
count_gone_in x t h (e ∷ E) = omega (arith, count_gone x t h e.left, count_gone x t h e.right, count_gone_in x t h E)

-- It leaves the number of any other variable that the term is without.
mutual
  count_kept : (y x : ℕ) (t : Term) → y ≢ x → count y t ≡ 0 → (u : Term) → count y (replace x t u) ≡ count y u
  count_kept y x t n h (var z) = at (ℕ_discrete z x)
    where
      at : (d : Dec (z ≡ x)) → count y (if d t (var z)) ≡ count y (var z)
      at (yes p) = h ∙ sym (count_other y z (λ q. n (q ∙ p)))
      at (no k) = refl
  count_kept y x t n h (con f v) = refl
  count_kept y x t n h (fun s ts) = counts_kept y x t n h ts

  counts_kept : (y x : ℕ) (t : Term) → y ≢ x → count y t ≡ 0 → (us : Terms) → counts y (applies (set x t var) us) ≡ counts y us
  counts_kept y x t n h none = refl
  counts_kept y x t n h (more u us) = ap₂ ◌+◌ (count_kept y x t n h u) (counts_kept y x t n h us)

pub count_kept_in : (y x : ℕ) (t : Term) → y ≢ x → count y t ≡ 0 → (E : Eqs) → count_in y (replaces x t E) ≡ count_in y E
count_kept_in y x t n h [] = refl
count_kept_in y x t n h (e ∷ E) = omega (arith, count_kept y x t n h e.left, count_kept y x t n h e.right, count_kept_in y x t n h E)

-- Assignments that agree on the variables of a term do the same to it.
mutual
  pub same_on : (σ τ : Subst) (u : Term) → ((y : ℕ) → 1 ≤ count y u → σ y ≡ τ y) → apply σ u ≡ apply τ u
  same_on σ τ (var x) h = h x (omega (arith, count_self x))
  same_on σ τ (con f v) h = refl
  same_on σ τ (fun s ts) h = ap (fun s) (same_on* σ τ ts h)

  same_on* : (σ τ : Subst) (us : Terms) → ((y : ℕ) → 1 ≤ counts y us → σ y ≡ τ y) → applies σ us ≡ applies τ us
  same_on* σ τ none h = refl
  same_on* σ τ (more u us) h = ap₂ more (same_on σ τ u (λ y k. h y (omega arith))) (same_on* σ τ us (λ y k. h y (omega arith)))

pub same_unifies : (σ τ : Subst) (E : Eqs) → ((y : ℕ) → 1 ≤ count_in y E → σ y ≡ τ y) → Unifies τ E → Unifies σ E
same_unifies σ τ [] h k = tt
same_unifies σ τ (e ∷ E) h k = (
  same_on σ τ e.left (λ y c. h y (omega arith)) ∙ k.0 ∙ sym (same_on σ τ e.right (λ y c. h y (omega arith))),
  same_unifies σ τ E (λ y c. h y (omega arith)) k.1,
)

mutual
  pub apply_var : (u : Term) → apply var u ≡ u
  apply_var (var x) = refl
  apply_var (con f v) = refl
  apply_var (fun s ts) = ap (fun s) (apply_var* ts)

  apply_var* : (us : Terms) → applies var us ≡ us
  apply_var* none = refl
  apply_var* (more u us) = ap₂ more (apply_var u) (apply_var* us)
