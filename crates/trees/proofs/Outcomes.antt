-- An outcome is one of the three at most: what unifies also fits
use Rattle.std.proofs.Common.{◌≡◌, ℕ, [], ◌∷◌, sym, refl, ap, ◌∙◌, ap₂}
use Rattle.trees.specs.Terms.{Term, Terms, var, con, fun, none, more, Subst, apply, applies, Eqs, Unifies, KTerm, base, kfun, kmore, kinds, kinds*, Fits, Fitting, Solvable, Signature, Outcome, solved, false, wrong, OutcomeOf}

mutual
  pub kinds_apply : (t : Term) (kind : Signature) (κ : ℕ → KTerm) (θ : Subst) → kinds kind κ (apply θ t) ≡ kinds kind (λ x. kinds kind κ (θ x)) t
  kinds_apply (var x) kind κ θ = refl
  kinds_apply (con f v) kind κ θ = refl
  kinds_apply (fun s ts) kind κ θ = ap (kfun s) (kinds*_apply ts kind κ θ)

  pub kinds*_apply : (ts : Terms) (kind : Signature) (κ : ℕ → KTerm) (θ : Subst) → kinds* kind κ (applies θ ts) ≡ kinds* kind (λ x. kinds kind κ (θ x)) ts
  kinds*_apply none kind κ θ = refl
  kinds*_apply (more t ts) kind κ θ = ap₂ kmore (kinds_apply t kind κ θ) (kinds*_apply ts kind κ θ)

pub fits_of : (E : Eqs) (kind : Signature) (κ : ℕ → KTerm) (θ : Subst) → Unifies θ E → Fits kind (λ x. kinds kind κ (θ x)) E
fits_of [] kind κ θ u = tt
fits_of (e ∷ E) kind κ θ u =
    (sym (kinds_apply e.left kind κ θ) ∙ (ap (kinds kind κ) u.0 ∙ kinds_apply e.right kind κ θ), fits_of E kind κ θ u.1)

pub fitting : (E : Eqs) (kind : Signature) → Solvable E → Fitting kind E
fitting E kind s = ((λ x. kinds kind (λ y. base 0) (s.0 x)), fits_of E kind (λ y. base 0) s.0 s.1)

pub outcome_one : (kind : Signature) (E : Eqs) (o p : Outcome) → OutcomeOf kind E o → OutcomeOf kind E p → o ≡ p
outcome_one kind E solved solved a b = refl
outcome_one kind E solved false a b = absurd (b.1 a)
outcome_one kind E solved wrong a b = absurd (b (fitting E kind a))
outcome_one kind E false solved a b = absurd (a.1 b)
outcome_one kind E false false a b = refl
outcome_one kind E false wrong a b = absurd (b a.0)
outcome_one kind E wrong solved a b = absurd (a (fitting E kind b))
outcome_one kind E wrong false a b = absurd (a b.0)
outcome_one kind E wrong wrong a b = refl
