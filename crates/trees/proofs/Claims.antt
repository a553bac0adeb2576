use Rattle.std.proofs.Common.{◌≡◌, ℕ, ◌+◌, ◌≤◌, ◌↔◌, List, length, refl, ap, ◌∙◌, inl, inr, arith}
use native.Mathlib.Decide.{dec_le}
use Rattle.trees.specs.Terms.{Subst, Unifies}
use Rattle.trees.specs.Tree.{Succeeds}
use Rattle.trees.specs.Proofs.{ProofUnder, uses, path}
use Rattle.trees.specs.Verdicts.{NoWorse}
use Rattle.trees.specs.Claims.{SoundComplete, HoldsIsProof, ToldIsBest, TreeTheory, EveryTree}
use Rattle.typing.proofs.Orders.{every_order}
use Rattle.trees.proofs.Splits.{uses_length}
use Rattle.trees.proofs.Uniques.{one_tree, some_tree, one_verdict}
use Rattle.trees.proofs.Lifting.{sound, complete}

pub sound_complete : SoundComplete
sound_complete P kind limit gs E k t p small le lg s l r = (there, back)
  where
    there : Succeeds t p → (θ : Subst) × Unifies θ E × ((π : ProofUnder P θ gs) × (path π ≡ p) × (uses π + k ≤ limit))
    there h =
        let m = sound r p l s h in
        let w = m.within in
        let u = uses_length m.proof.0 in
        let v = ap length m.proof.1 in
        (m.terms, m.unifies, (m.proof.0, m.proof.1, omega arith))

    back : (θ : Subst) × Unifies θ E × ((π : ProofUnder P θ gs) × (path π ≡ p) × (uses π + k ≤ limit)) → Succeeds t p
    back w =
        let u = uses_length w.2.0 in
        let v = ap length w.2.1 in
        let b = w.2.2 in
        complete r p refl small (record { terms = w.0; unifies = w.1; low_eqs = le; low_goals = lg; proof = (w.2.0, w.2.1) }) (omega arith)

pub holds_is_proof : HoldsIsProof
holds_is_proof P kind limit gs E t q = (there, back)
  where
    there : (p : List ℕ) × Succeeds t p → (θ : Subst) × Unifies θ E × ((π : ProofUnder P θ gs) × (uses π ≤ limit))
    there h =
        let w = (sound_complete P kind limit gs E 0 t h.0 q.small q.equations q.goals q.solvable (omega arith) q.tree).0 h.1 in
        let b = w.2.2 in
        (w.0, w.1, (w.2.0, omega arith))

    back : (θ : Subst) × Unifies θ E × ((π : ProofUnder P θ gs) × (uses π ≤ limit)) → (p : List ℕ) × Succeeds t p
    back w =
        let b = w.2.1 in
        (path w.2.0, (sound_complete P kind limit gs E 0 t (path w.2.0) q.small q.equations q.goals q.solvable (omega arith) q.tree).1 (w.0, w.1, (w.2.0, refl, omega arith)))

pub told_is_best : ToldIsBest
told_is_best P kind limit gs E t p q h = (first, other)
  where
    in_tree : (x : List ℕ) → Succeeds t x ↔ ((θ : Subst) × Unifies θ E × ((π : ProofUnder P θ gs) × (path π ≡ x) × (uses π + 0 ≤ limit)))
    in_tree x = sound_complete P kind limit gs E 0 t x q.small q.equations q.goals q.solvable (omega arith) q.tree

    mine : (θ : Subst) × Unifies θ E × ((π : ProofUnder P θ gs) × (path π ≡ p) × (uses π + 0 ≤ limit))
    mine = (in_tree p).0 h.0

    first : (θ : Subst) × Unifies θ E × ((π : ProofUnder P θ gs) × (path π ≡ p) × (uses π ≡ length p))
    first = (mine.0, mine.1, (mine.2.0, mine.2.1, uses_length mine.2.0 ∙ ap length mine.2.1))

    short : length p ≤ limit
    short = let a = uses_length mine.2.0 in let b = ap length mine.2.1 in let c = mine.2.2 in omega arith

    size : (x : List ℕ) → NoWorse p x → length p ≤ length x
    size x (inl a) = omega arith
    size x (inr b) = let e = b.0 in omega arith

    other : (θ : Subst) → Unifies θ E → (π : ProofUnder P θ gs) → NoWorse p (path π) × (length p ≤ uses π)
    other θ u π = go (dec_le (uses π) limit)
      where
        go : Dec (uses π ≤ limit) → NoWorse p (path π) × (length p ≤ uses π)
        go (yes l) =
            let w : NoWorse p (path π) = h.1 (path π) ((in_tree (path π)).1 (θ, u, (π, refl, omega arith))) in
            let a = size (path π) w in
            let b = uses_length π in
            (w, omega arith)
        go (no l) =
            let b = uses_length π in
            let s = short in
            (inl (omega arith), omega arith)

-- the outcome of the rules in any order is one
pub every_tree : EveryTree
every_tree P kind = some_tree P kind (λ E. let w = (every_order kind E).comes_to_one in (w.0, ((every_order kind E).comes_when w.0).0 w.1))

pub tree_theory : TreeTheory
tree_theory = (sound_complete, holds_is_proof, told_is_best, one_tree, some_tree, one_verdict, every_tree)
