use Rattle.std.proofs.Common.{◌≡◌, ℕ, ◌++◌, refl, ap, ap₂, arith}
use Rattle.trees.specs.Terms.{Terms, fun, none, more, arity, Subst, applies, Eqs, Unifies, KTerm, KTerms, kfun, kmore, Signature, kinds*, Fits}
use Rattle.trees.specs.Arguments.{pairs, ArgumentsLaw}

unify_there : (ts us : Terms) (E : Eqs) (θ : Subst) → arity ts ≡ arity us → applies θ ts ≡ applies θ us → Unifies θ E → Unifies θ (pairs ts us ++ E)
unify_there none us E θ c e u = u
unify_there (more t ts) none E θ c e u = absurd (omega arith)
unify_there (more t ts) (more v us) E θ c e u = ((cc), unify_there ts us E θ (omega arith) (cc) u)

unify_back : (ts us : Terms) (E : Eqs) (θ : Subst) → arity ts ≡ arity us → Unifies θ (pairs ts us ++ E) → (applies θ ts ≡ applies θ us) × Unifies θ E
unify_back none none E θ c u = (refl, u)
unify_back none (more v us) E θ c u = absurd (omega arith)
unify_back (more t ts) none E θ c u = absurd (omega arith)
unify_back (more t ts) (more v us) E θ c u = let w = unify_back ts us E θ (omega arith) u.1 in (ap₂ more u.0 w.0, w.1)

fit_there : (ts us : Terms) (E : Eqs) (kind : Signature) (κ : ℕ → KTerm) → arity ts ≡ arity us → kinds* kind κ ts ≡ kinds* kind κ us → Fits kind κ E → Fits kind κ (pairs ts us ++ E)
fit_there none us E kind κ c e u = u
fit_there (more t ts) none E kind κ c e u = absurd (omega arith)
fit_there (more t ts) (more v us) E kind κ c e u = ((cc), fit_there ts us E kind κ (omega arith) (cc) u)

fit_back : (ts us : Terms) (E : Eqs) (kind : Signature) (κ : ℕ → KTerm) → arity ts ≡ arity us → Fits kind κ (pairs ts us ++ E) → (kinds* kind κ ts ≡ kinds* kind κ us) × Fits kind κ E
fit_back none none E kind κ c u = (refl, u)
fit_back none (more v us) E kind κ c u = absurd (omega arith)
fit_back (more t ts) none E kind κ c u = absurd (omega arith)
fit_back (more t ts) (more v us) E kind κ c u = let w = fit_back ts us E kind κ (omega arith) u.1 in (ap₂ kmore u.0 w.0, w.1)

fun_inside : (s : ℕ) (x y : Terms) → fun s x ≡ fun s y → x ≡ y
fun_inside s x y e = cc

kfun_inside : (s : ℕ) (x y : KTerms) → kfun s x ≡ kfun s y → x ≡ y
kfun_inside s x y e = cc

pub arguments_law : ArgumentsLaw
arguments_law s ts us E c = (
  λ θ. (λ u. unify_there ts us E θ c (fun_inside s _ _ u.0) u.1, λ u. let w = unify_back ts us E θ c u in (ap (fun s) w.0, w.1)),
  λ kind κ. (λ u. fit_there ts us E kind κ c (kfun_inside s _ _ u.0) u.1, λ u. let w = fit_back ts us E kind κ c u in (ap (kfun s) w.0, w.1)),
)
