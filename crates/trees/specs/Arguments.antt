-- One equation of two goals is as good as the equations of their arguments
use Rattle.std.specs.Prelude.{◌≡◌, ℕ, ◌↔◌, [], ◌∷◌, ◌++◌}
use Rattle.trees.specs.Terms.{Terms, fun, none, more, arity, Subst, Eqs, ◌≈◌, Unifies, KTerm, Signature, Fits}

abbrev pub pairs : Terms → Terms → Eqs
pairs none us = []
pairs (more t ts) none = []
pairs (more t ts) (more u us) = (t ≈ u) ∷ pairs ts us

abbrev pub ArgumentsLaw : Type 0
ArgumentsLaw = (s : ℕ) (ts us : Terms) (E : Eqs) → arity ts ≡ arity us →
    ((θ : Subst) → Unifies θ ((fun s ts ≈ fun s us) ∷ E) ↔ Unifies θ (pairs ts us ++ E)) ×
    ((kind : Signature) (κ : ℕ → KTerm) → Fits kind κ ((fun s ts ≈ fun s us) ∷ E) ↔ Fits kind κ (pairs ts us ++ E))
