-- Where a clash applies, no assignment of kinds fits. An assignment of terms that makes alike gives one of kinds that fits.
use mathlib.Core.Path.{◌≡◌, refl, sym, ◌∙◌, ap, ap₂}
use mathlib.Core.Logic.{◌≢◌, ◌⊎◌, inl, inr}
use mathlib.Core.List.{[], ◌∷◌}
use Prim.Native.Nat.{ℕ, ◌+◌, ◌≤◌}
use native.Mathlib.Omega.{arith}
use Rattle.typing.specs.Terms.{Term, var, con, fun, Terms, none, more, arity, Eqs, Subst, apply, applies, count, counts, KTerm, base, kfun, KTerms, knone, kmore, Signature, kinds, kinds*, Unifies, Fits}
use Rattle.typing.specs.Rules.{State, Clash, other_functions, two_kinds, constant_function, function_constant, inside_itself}
use Rattle.typing.proofs.Readings.{kind_reading, back, against}
use Rattle.typing.proofs.Counts.{count_var, one_of}

-- The number of function symbols and kinds of a kind term, and of arguments.
abbrev mutual
  size : KTerm → ℕ
  size (base k) = 1
  size (kfun s ks) = 1 + sizes ks

  sizes : KTerms → ℕ
  sizes knone = 0
  sizes (kmore k ks) = size k + sizes ks

abbrev width : KTerms → ℕ
width knone = 0
width (kmore k ks) = 1 + width ks

module _ (kind : Signature) (κ : ℕ → KTerm) where
  width_arity : (ts : Terms) → width (kinds* kind κ ts) ≡ arity ts
  width_arity none = refl
  width_arity (more t ts) = omega (arith, width_arity ts)

  -- the kind term of x is no larger than that of a term with x in it
  mutual
    within : (x : ℕ) (u : Term) → 1 ≤ count x u → size (κ x) ≤ size (kinds kind κ u)
    within x (var y) h = let p : size (κ x) ≡ size (κ y) = ap (λ (z : ℕ). size (κ z)) (count_var x y h) in omega arith
    within x (con f v) h = absurd (omega arith)
    within x (fun s ts) h = omega (arith, within* x ts h)

    within* : (x : ℕ) (us : Terms) → 1 ≤ counts x us → size (κ x) ≤ sizes (kinds* kind κ us)
    within* x none h = absurd (omega arith)
    within* x (more u us) h = at (one_of (count x u) (counts x us) h) (within x u) (within* x us)
      where
        at : (1 ≤ count x u) ⊎ (1 ≤ counts x us)
            → (1 ≤ count x u → size (κ x) ≤ size (kinds kind κ u))
            → (1 ≤ counts x us → size (κ x) ≤ sizes (kinds* kind κ us))
            → size (κ x) ≤ size (kinds kind κ u) + sizes (kinds* kind κ us)
        at (inl p) a b = omega (arith, a p)
        at (inr p) a b = omega (arith, b p)

  -- x and another term with x in it have different kind terms
  cyclic : (x : ℕ) (t : Term) → t ≢ var x → 1 ≤ count x t → κ x ≢ kinds kind κ t
  cyclic x (var y) n h p = n (ap var (sym (count_var x y h)))
  cyclic x (con f v) n h p = omega arith
  cyclic x (fun s ts) n h p = omega (arith, within* x ts h, ap size p)

  pub clash_fits : {s : State} → Clash kind s → ¬ Fits kind κ s.eqs
  clash_fits (other_functions pre post s r ts us n) h =
      let p : kfun s (kinds* kind κ ts) ≡ kfun r (kinds* kind κ us) = (back (kinds kind κ) pre _ h).0 in
      let q : kinds* kind κ ts ≡ kinds* kind κ us = cc in
      n (cc, sym (width_arity ts) ∙ ap width q ∙ width_arity us)
  clash_fits (two_kinds pre post f v g w n) h =
      let p : base (kind f v) ≡ base (kind g w) = (back (kinds kind κ) pre _ h).0 in
      n (cc)
  clash_fits (constant_function pre post f v s ts) h =
      let p : base (kind f v) ≡ kfun s (kinds* kind κ ts) = (back (kinds kind κ) pre _ h).0 in
      let z : ◌≡◌ {A = ℕ} 0 1 = cc in omega arith
  clash_fits (function_constant pre post f v s ts) h =
      let p : kfun s (kinds* kind κ ts) ≡ base (kind f v) = (back (kinds kind κ) pre _ h).0 in
      let z : ◌≡◌ {A = ℕ} 0 1 = cc in omega arith
  clash_fits (inside_itself pre post {x = x} {t = t} a n c) h = cyclic x t n c (against (kind_reading kind κ) a (back (kinds kind κ) pre _ h).0)

  -- kinds after terms
  abbrev after : Subst → ℕ → KTerm
  after θ x = kinds kind κ (θ x)

  mutual
    kinds_apply : (θ : Subst) (u : Term) → kinds kind κ (apply θ u) ≡ kinds kind (after θ) u
    kinds_apply θ (var x) = refl
    kinds_apply θ (con f v) = refl
    kinds_apply θ (fun s ts) = ap (kfun s) (kinds_applies θ ts)

    kinds_applies : (θ : Subst) (us : Terms) → kinds* kind κ (applies θ us) ≡ kinds* kind (after θ) us
    kinds_applies θ none = refl
    kinds_applies θ (more u us) = ap₂ kmore (kinds_apply θ u) (kinds_applies θ us)

  unifies_fits : (θ : Subst) (E : Eqs) → Unifies θ E → Fits kind (after θ) E
  unifies_fits θ [] h = tt
  unifies_fits θ (e ∷ E) h = (sym (kinds_apply θ e.left) ∙ ap (kinds kind κ) h.0 ∙ kinds_apply θ e.right, unifies_fits θ E h.1)

pub some_fits : (kind : Signature) (E : Eqs) → ((θ : Subst) × Unifies θ E) → (κ : ℕ → KTerm) × Fits kind κ E
some_fits kind E u = (after kind (λ x. base 0) u.0, unifies_fits kind (λ x. base 0) u.0 E u.1)
