-- What trees and proofs have to do with each other.
use Rattle.std.specs.Prelude.{◌≡◌, ℕ, ◌+◌, ◌≤◌, Bool, true, ◌↔◌, List, length}
use Rattle.trees.specs.Terms.{Subst, Unifies, Eqs, EqsBelow, Solvable, Signature, Outcome, OutcomeOf}
use Rattle.trees.specs.Tree.{Goal, Program, Small, GoalsBelow, fresh, Tree, IsTree, Succeeds}
use Rattle.trees.specs.Proofs.{ProofUnder, uses, path}
use Rattle.trees.specs.Verdicts.{Verdict, holds, VerdictOf, Told, NoWorse}

-- the success leaves under a node, by their paths, are the proofs under a unifier of its equations within what is left of the limit
abbrev pub SoundComplete : Type 0
SoundComplete = (P : Program) (kind : Signature) (limit : ℕ) (gs : List Goal) (E : Eqs) (k : ℕ) (t : Tree) (p : List ℕ) →
    Small P → EqsBelow (fresh k) E → GoalsBelow (fresh k) gs → Solvable E → k ≤ limit → IsTree P kind limit true gs E k t →
    (Succeeds t p ↔ ((θ : Subst) × Unifies θ E × ((π : ProofUnder P θ gs) × (path π ≡ p) × (uses π + k ≤ limit))))

-- a question: goals and standing equations over the variables 0 to 31, the equations solvable, and its tree
pub record Question (P : Program) (kind : Signature) (limit : ℕ) (gs : List Goal) (E : Eqs) (t : Tree) : Type 0 where
  pub small : Small P
  pub equations : EqsBelow 32 E
  pub goals : GoalsBelow 32 gs
  pub solvable : Solvable E
  pub tree : IsTree P kind limit true gs E 0 t

-- holds comes exactly if an assignment that makes the equations alike has a proof within the limit
abbrev pub HoldsIsProof : Type 0
HoldsIsProof = (P : Program) (kind : Signature) (limit : ℕ) (gs : List Goal) (E : Eqs) (t : Tree) → Question P kind limit gs E t →
    (VerdictOf t holds ↔ ((θ : Subst) × Unifies θ E × ((π : ProofUnder P θ gs) × (uses π ≤ limit))))

-- the path told is that of a proof, and no proof under any such assignment has a better one
abbrev pub ToldIsBest : Type 0
ToldIsBest = (P : Program) (kind : Signature) (limit : ℕ) (gs : List Goal) (E : Eqs) (t : Tree) (p : List ℕ) → Question P kind limit gs E t → Told t p →
    ((θ : Subst) × Unifies θ E × ((π : ProofUnder P θ gs) × (path π ≡ p) × (uses π ≡ length p))) ×
    ((θ : Subst) → Unifies θ E → (π : ProofUnder P θ gs) → NoWorse p (path π) × (length p ≤ uses π))

-- a node has one tree at most
abbrev pub OneTree : Type 0
OneTree = (P : Program) (kind : Signature) (limit : ℕ) (f : Bool) (gs : List Goal) (E : Eqs) (k : ℕ) (t u : Tree) →
    IsTree P kind limit f gs E k t → IsTree P kind limit f gs E k u → t ≡ u

-- and one at least, where every list of equations has an outcome
abbrev pub SomeTree : Type 0
SomeTree = (P : Program) (kind : Signature) → ((E : Eqs) → (o : Outcome) × OutcomeOf kind E o) →
    (limit : ℕ) (f : Bool) (gs : List Goal) (E : Eqs) (k : ℕ) → (t : Tree) × IsTree P kind limit f gs E k t

-- so every node has a tree, since every list of equations has an outcome
abbrev pub EveryTree : Type 0
EveryTree = (P : Program) (kind : Signature) (limit : ℕ) (f : Bool) (gs : List Goal) (E : Eqs) (k : ℕ) → (t : Tree) × IsTree P kind limit f gs E k t

abbrev pub OneVerdict : Type 0
OneVerdict = (t : Tree) (v w : Verdict) → VerdictOf t v → VerdictOf t w → v ≡ w

abbrev pub TreeTheory : Type 0
TreeTheory = SoundComplete × HoldsIsProof × ToldIsBest × OneTree × SomeTree × OneVerdict × EveryTree
