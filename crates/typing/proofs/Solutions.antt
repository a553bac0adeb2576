-- Settled equations show a most general assignment.
use mathlib.Core.Path.{◌≡◌, refl, sym, ◌∙◌, ap, subst}
use mathlib.Core.List.{[], ◌∷◌, ◌++◌}
use Prim.Native.Nat.{ℕ, ◌+◌, ◌≤◌}
use native.Mathlib.Decide.{ℕ_discrete}
use native.Mathlib.Omega.{arith}
use Rattle.typing.specs.Terms.{Term, var, Equation, Eqs, Subst, apply, if, set, count, count_in, Unifies}
use Rattle.typing.specs.Rules.{Against, on_left, on_right, solution}
use Rattle.typing.proofs.Readings.{term_reading, against}
use Rattle.typing.proofs.Counts.{if_yes, if_no, count_self, count_other, count_against, same_on, same_unifies, apply_var}
use Rattle.typing.proofs.Heads.{head, heads, head_against, shown_against}
use Rattle.typing.proofs.Finals.{Bound, Settled}

tail_settled : {e : Equation} {E : Eqs} → Settled (e ∷ E) → Settled E
tail_settled {e} {E} h pre post d p =
    let B = h (e ∷ pre) post d (ap (λ (F : Eqs). e ∷ F) p) in
    record { x = B.x; t = B.t; is = B.is; own = B.own; others = omega (arith, B.others) }

-- a variable of the first equation is not the one that a later equation is against
apart : (y : ℕ) (E : Eqs) → ((pre post : Eqs) (e : Equation) → E ≡ pre ++ (e ∷ post) → head y e.left e.right ≡ 0) → heads y E ≡ 0
apart y [] h = refl
apart y (e ∷ E) h = omega (arith, h [] E e refl, apart y E (λ pre post d p. h (e ∷ pre) post d (ap (λ (F : Eqs). e ∷ F) p)))

settled_apart : {d : Equation} {E : Eqs} → Settled (d ∷ E) → (y : ℕ) → 1 ≤ count y d.left + count y d.right → heads y E ≡ 0
settled_apart {d} {E} h y c = apart y E (λ pre post e p. at pre post e (h (d ∷ pre) post e (ap (λ (F : Eqs). d ∷ F) p)))
  where
    at : (pre post : Eqs) (e : Equation) → Bound (d ∷ pre) post e → head y e.left e.right ≡ 0
    at pre post e B = head_against y B.is ∙ count_other y B.x (λ p.
        omega (arith, c, B.others, ap (λ (z : ℕ). count z d.left + count z d.right) p))

still : (y : ℕ) (E : Eqs) → Settled E → heads y E ≡ 0 → solution E y ≡ var y
still y [] h z = refl
still y (e ∷ E) h z =
    let B = h [] E e refl in
    ap (λ (σ : Subst). σ y) (shown_against (solution E) B.is)
    ∙ if_no (ℕ_discrete y B.x) B.t (solution E y) (λ p. omega (arith, head_against y B.is, count_self y, ap (λ (x : ℕ). count y (var x)) p))
    ∙ still y E (tail_settled h) (omega arith)

alike_against : {A : Type 0} (value : Term → A) {x : ℕ} {t : Term} {e : Equation} → Against x t e → value (var x) ≡ value t → value e.left ≡ value e.right
alike_against value on_left p = p
alike_against value (on_right n) p = sym p

pub solution_unifies : (E : Eqs) → Settled E → Unifies (solution E) E
solution_unifies [] h = tt
solution_unifies (e ∷ E) h = go (h [] E e refl) (solution_unifies E (tail_settled h))
  where
    go : Bound [] E e → Unifies (solution E) E → Unifies (solution (e ∷ E)) (e ∷ E)
    go B k = subst (λ (σ : Subst). Unifies σ (e ∷ E)) (sym (shown_against (solution E) B.is)) (alike_against (apply σ) B.is first, rest)
      where
        σ : Subst
        σ = set B.x B.t (solution E)

        unmoved : (y : ℕ) → 1 ≤ count y B.t → σ y ≡ var y
        unmoved y c = if_no (ℕ_discrete y B.x) B.t (solution E y) (λ p. omega (arith, B.own, ap (λ (z : ℕ). count z B.t) p))
            ∙ still y E (tail_settled h) (settled_apart h y (omega (arith, count_against y B.is)))

        first : σ B.x ≡ apply σ B.t
        first = if_yes (ℕ_discrete B.x B.x) B.t (solution E B.x) refl ∙ sym (same_on σ var B.t unmoved ∙ apply_var B.t)

        rest : Unifies σ E
        rest = same_unifies σ (solution E) E
            (λ y c. if_no (ℕ_discrete y B.x) B.t (solution E y) (λ p. omega (arith, B.others, ap (λ (z : ℕ). count_in z E) p))) k

pub solution_general : (E : Eqs) → Settled E → (η : Subst) → Unifies η E → (y : ℕ) → η y ≡ apply η (solution E y)
solution_general [] h η k y = refl
solution_general (e ∷ E) h η k y = go (h [] E e refl) (solution_general E (tail_settled h) η k.1 y)
  where
    go : Bound [] E e → η y ≡ apply η (solution E y) → η y ≡ apply η (solution (e ∷ E) y)
    go B ih = at (ℕ_discrete y B.x) ∙ sym (ap (λ (σ : Subst). apply η (σ y)) (shown_against (solution E) B.is))
      where
        at : (d : Dec (y ≡ B.x)) → η y ≡ apply η (if d B.t (solution E y))
        at (yes p) = ap η p ∙ against (term_reading η) B.is k.0
        at (no n) = ih
