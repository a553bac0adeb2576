-- Declarative proofs
use Rattle.std.specs.Prelude.{◌≡◌, ℕ, ◌+◌, List, [], ◌∷◌, ◌++◌}
use Rattle.std.proofs.Math.Option.{some}
use Rattle.std.proofs.Math.ListN.{get_elem?}
use Rattle.trees.specs.Terms.{Subst}
use Rattle.trees.specs.Tree.{Goal, Clause, Program, listed, instance_of, instances}

-- a proof of goals that have had their variables replaced: for the first a clause of its list and terms for the clause's variables that turn
-- the head into the goal, with a proof of the body under those terms; and a proof of the others
pub data Proof (P : Program) : List Goal → Type 0 where
  done : Proof P []
  use_of : {g : Goal} {gs : List Goal} (i : ℕ) (c : Clause) (σ : Subst) → get_elem? (listed P g) i ≡ some c → instance_of σ c.head ≡ g →
      Proof P (instances σ c.body) → Proof P gs → Proof P (g ∷ gs)

abbrev pub uses : {P : Program} {gs : List Goal} → Proof P gs → ℕ
uses done = 0
uses (use_of i c σ a e b r) = (1 + uses b) + uses r

-- the clause numbers in step order
abbrev pub path : {P : Program} {gs : List Goal} → Proof P gs → List ℕ
path done = []
path (use_of i c σ a e b r) = i ∷ (path b ++ path r)

-- a proof under θ
abbrev pub ProofUnder : Program → Subst → List Goal → Type 0
ProofUnder P θ gs = Proof P (instances θ gs)
