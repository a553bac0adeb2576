-- A source's lists beside the program that they spell.
use Rattle.std.proofs.Common.{◌≡◌, ℕ, zero, suc, ◌<◌, ◌≤◌, List, [], ◌∷◌, length, get_or, drop, sym, refl, ap, ◌∙◌, arith}
use mathlib.Core.Option.{some}
use lib.ListN.{get_elem?}
use Rattle.std.proofs.lemmas.List.{length-map, drop_all, get_or-map}
use Rattle.terms.specs.declared.Cell.{Cell}
use Rattle.trees.specs.Tree.{Clause, Program}
use Rattle.programs.specs.Spelling.{spell_clause, Spells}

-- the element at a place, and what is left from there on
at_place : {X : Type 0} (xs : List X) (i : ℕ) → i < length xs → (x : X) × (get_elem? xs i ≡ some x) × (get_or xs i x ≡ x) × (drop i xs ≡ x ∷ drop (suc i) xs)
at_place [] i h = absurd (omega arith)
at_place (x ∷ xs) zero h = (x, refl, refl, refl)
at_place (x ∷ xs) (suc i) h = at_place xs i (omega arith)

pub spelt_length : (P : Program) (lists : ℕ → ℕ → List (List Cell)) → Spells P lists → (s a : ℕ) → length (P s a) ≡ length (lists s a)
spelt_length P lists spells s a = sym (length-map (P s a) spell_clause) ∙ ap length (spells s a)

pub spelt_clause : (P : Program) (lists : ℕ → ℕ → List (List Cell)) → Spells P lists → (s a i : ℕ) → i < length (lists s a)
    → (c : Clause) × (get_elem? (P s a) i ≡ some c) × (get_or (lists s a) i [] ≡ spell_clause c) × (drop i (P s a) ≡ c ∷ drop (suc i) (P s a))
spelt_clause P lists spells s a i h =
    let n = spelt_length P lists spells s a in
    let k : i < length (P s a) = omega arith in
    let at = at_place (P s a) i k in
    let e : get_or (lists s a) i [] ≡ spell_clause (get_or (P s a) i at.0) = ap (λ xs. get_or xs i []) (sym (spells s a)) ∙ get_or-map spell_clause (P s a) i at.0 [] k in
    (at.0, at.1, e ∙ ap spell_clause at.2, at.3)

pub spelt_none : (P : Program) (lists : ℕ → ℕ → List (List Cell)) → Spells P lists → (s a i : ℕ) → length (lists s a) ≤ i → drop i (P s a) ≡ []
spelt_none P lists spells s a i h = let n = spelt_length P lists spells s a in drop_all i (P s a) (omega arith)
