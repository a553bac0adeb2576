use Rattle.std.proofs.Common.{◌≡◌, ℕ, List, [], ◌∷◌, sym, refl, ap, ◌∙◌}
use Rattle.graphs.specs.declared.Pair.{Pair}
use Rattle.graphs.specs.Terms.{Term, Terms, var, con, fun, none, more, KTerm, base, kfun, Subst, apply, applies, kinds, kinds*}
use Rattle.graphs.specs.Graph.{Graph}
use Rattle.graphs.specs.Meaning.{decode, Unifies, Fits, NoKinds}

mutual
  kinds_apply : (kind : ℕ → ℕ → ℕ) (κ : ℕ → KTerm) (θ : Subst) (t : Term) → kinds kind κ (apply θ t) ≡ kinds kind (λ v. kinds kind κ (θ v)) t
  kinds_apply kind κ θ (var x) = refl
  kinds_apply kind κ θ (con f v) = refl
  kinds_apply kind κ θ (fun s ts) = ap (kfun s) (kinds*_applies kind κ θ ts)

  kinds*_applies : (kind : ℕ → ℕ → ℕ) (κ : ℕ → KTerm) (θ : Subst) (ts : Terms) → kinds* kind κ (applies θ ts) ≡ kinds* kind (λ v. kinds kind κ (θ v)) ts
  kinds*_applies kind κ θ none = refl
  kinds*_applies kind κ θ (more t ts) = let a = kinds_apply kind κ θ t in let b = kinds*_applies kind κ θ ts in cc

-- what unifies fits, whatever kinds its variables are given
pub unifies_fits : (kind : ℕ → ℕ → ℕ) (κ : ℕ → KTerm) (cap : ℕ) (g : Graph) (θ : Subst) (E : List Pair) → Unifies cap g θ E → Fits kind cap g (λ v. kinds kind κ (θ v)) E
unifies_fits kind κ cap g θ [] u = tt
unifies_fits kind κ cap g θ (p ∷ ps) u =
    (sym (kinds_apply kind κ θ (decode cap g p.left)) ∙ (ap (kinds kind κ) u.0 ∙ kinds_apply kind κ θ (decode cap g p.right)), unifies_fits kind κ cap g θ ps u.1)

pub solved_wrong : (kind : ℕ → ℕ → ℕ) (cap : ℕ) (g : Graph) (E : List Pair) (θ : Subst) → Unifies cap g θ E → NoKinds kind cap g E → ⊥
solved_wrong kind cap g E θ u w = w (λ v. kinds kind (λ _. base 0) (θ v)) (unifies_fits kind (λ _. base 0) cap g θ E u)
