-- Cells that are two terms spell an equation.
use Rattle.std.proofs.Common.{◌≡◌, ℕ, ◌+◌, ◌-◌, cond, eqb, List, [], ◌∷◌, ◌++◌, length, get_or, Some, None, Option, sym, refl, ap, ◌∙◌, ap₂, arith, length-append}
use native.Mathlib.Decide.{ℕ_discrete}
use Rattle.std.proofs.lemmas.List.{append-nil}
use Rattle.std.proofs.lemmas.Bool.{cond-true, cond-false, eq-eqb, ne_eqb}
use Rattle.terms.specs.declared.Cell.{Cell}
use Rattle.terms.specs.Shape.{skip, nothing_left, second_term, two_terms}
use Rattle.terms.specs.Kinds.{declared_kind}
use Rattle.typing.specs.Terms.{Term, Terms, none, more, Equation, ◌≈◌, if}
use Rattle.typing.specs.Worked.{declared}
use Rattle.graphs.specs.Flat.{count, flat, flats}
use Rattle.programs.specs.Spelling.{spell_equation}
use Rattle.programs.proofs.Parsing.{parse_terms}
use Rattle.programs.proofs.Unique.{flat_prefix}

none_not_some : {A : Type 0} (x : A) → None ≡ Some x → ⊥
none_not_some x e = let z : ◌≡◌ {A = ℕ} 0 1 = cc in omega arith

-- one term, and what is left
pub parse_term : (cs left : List Cell) → skip 1 cs ≡ Some left → (t : Term) × (cs ≡ flat t ++ left)
parse_term cs left e = let p = parse_terms 1 cs left e in one p.0 p.1 p.2
  where
    one : (ts : Terms) → count ts ≡ 1 → cs ≡ flats ts ++ left → (t : Term) × (cs ≡ flat t ++ left)
    one none n s = absurd (omega arith)
    one (more t none) n s = (t, s ∙ ap (λ xs. xs ++ left) (append-nil (flat t)))
    one (more t (more u ts)) n s = absurd (omega arith)

pub parse_equation : (p : ℕ) (cs : List Cell) → two_terms cs ≡ Some p → (e : Equation) × (cs ≡ spell_equation e) × (p ≡ length (flat e.left))
parse_equation p cs = first (skip 1 cs) refl
  where
    second : (t : Term) (mid : List Cell) → cs ≡ flat t ++ mid → (o : Option (List Cell)) → skip 1 mid ≡ o → nothing_left o (length cs - length mid) ≡ Some p
        → (e : Equation) × (cs ≡ spell_equation e) × (p ≡ length (flat e.left))
    second t mid s None h e = absurd (none_not_some p e)
    second t mid s (Some []) h e =
        let u = parse_term mid [] h in
        let n : length cs ≡ length (flat t) + length mid = ap length s ∙ length-append (flat t) mid in
        let q : length cs - length mid ≡ p = cc in
        (t ≈ u.0, s ∙ ap (λ xs. flat t ++ xs) (u.1 ∙ append-nil (flat u.0)), omega arith)
    second t mid s (Some (x ∷ xs)) h e = absurd (none_not_some p e)

    first : (o : Option (List Cell)) → skip 1 cs ≡ o → second_term (length cs) o ≡ Some p → (e : Equation) × (cs ≡ spell_equation e) × (p ≡ length (flat e.left))
    first None h e = absurd (none_not_some p e)
    first (Some mid) h e = let t = parse_term cs mid h in second t.0 mid t.1 (skip 1 mid) refl e

pub spell_equation_injective : (d e : Equation) → spell_equation d ≡ spell_equation e → d ≡ e
spell_equation_injective d e h =
    let p = flat_prefix d.left e.left (flat d.right) (flat e.right) h in
    let q = flat_prefix d.right e.right [] [] (append-nil (flat d.right) ∙ (p.1 ∙ sym (append-nil (flat e.right)))) in
    ap₂ ◌≈◌ p.0 q.0

pub declared_kinds : (groups : List ℕ) (f v : ℕ) → declared_kind groups f v ≡ declared groups f v
declared_kinds groups f v = at (ℕ_discrete f 2)
  where
    at : (d : Dec (f ≡ 2)) → cond (eqb f 2) (16 + get_or groups v 0) f ≡ if d (16 + get_or groups v 0) f
    at (yes e) = cond-true (eqb f 2) _ _ (eq-eqb f 2 e)
    at (no n) = cond-false (eqb f 2) _ _ (ne_eqb f 2 n)
