-- Worked questions, a constant's kind being its form, and the worked equations with them.
use Rattle.std.specs.Prelude.{◌≡◌, ℕ, ◌<◌, ◌≤◌, true, cond, ◌&&◌, List, [], ◌∷◌, ◌==◌}
use Rattle.typing.specs.Worked as equations
use Rattle.trees.specs.Terms.{Term, var, con, none, more, Signature}
use Rattle.trees.specs.Tree.{Goal, Clause, Program, Tree, IsTree, steps}
use Rattle.trees.specs.Verdicts.{Verdict, holds, unsettled, erroneous, fails, VerdictOf, Told}

abbrev pub form : Signature
form f v = f

abbrev pub int : ℕ → Term
int n = con 0 n

abbrev pub atom : ℕ → Term
atom n = con 2 n

abbrev pub goal₁ : ℕ → Term → Goal
goal₁ s t = record { symbol = s; arguments = more t none }

abbrev pub goal₂ : ℕ → Term → Term → Goal
goal₂ s t u = record { symbol = s; arguments = more t (more u none) }

abbrev pub fact : Goal → Clause
fact g = record { head = g; body = [] }

-- the predicate of symbol 0 and an arity has these clauses, the others none
abbrev pub only : ℕ → List Clause → Program
only n cs s a = cond (s == 0 && a == n) cs []

-- p(0). p(1). p(a).
abbrev pub numbers : Program
numbers = only 1 (fact (goal₁ 0 (int 0)) ∷ (fact (goal₁ 0 (int 1)) ∷ (fact (goal₁ 0 (atom 1)) ∷ [])))

-- p(X,X).
abbrev pub twins : Program
twins = only 2 (fact (goal₂ 0 (var 0) (var 0)) ∷ [])

-- q(X) :- q(X).
abbrev pub circle : Program
circle = only 1 (record { head = goal₁ 0 (var 0); body = goal₁ 0 (var 0) ∷ [] } ∷ [])

pub record Answered (P : Program) (limit : ℕ) (gs : List Goal) (v : Verdict) (n : ℕ) : Type 0 where
  pub tree : Tree
  pub is : IsTree P form limit true gs [] 0 tree
  pub verdict : VerdictOf tree v
  pub steps_are : steps tree ≡ n

abbrev pub numbers_hold : Type 0
numbers_hold = (a : Answered numbers 32 (goal₁ 0 (int 1) ∷ []) holds 3) × Told a.tree (1 ∷ [])

abbrev pub wrong_after_false : Type 0
wrong_after_false = Answered twins 32 (goal₂ 0 (int 1) (int 2) ∷ (goal₂ 0 (int 1) (atom 1) ∷ [])) erroneous 2

abbrev pub fails_after_false : Type 0
fails_after_false = Answered twins 32 (goal₂ 0 (int 1) (int 2) ∷ (goal₂ 0 (int 1) (int 1) ∷ [])) fails 2

abbrev pub cut_at_one : Type 0
cut_at_one = Answered twins 1 (goal₂ 0 (int 1) (int 1) ∷ (goal₂ 0 (int 1) (int 1) ∷ [])) unsettled 1 ×
    Answered twins 2 (goal₂ 0 (int 1) (int 1) ∷ (goal₂ 0 (int 1) (int 1) ∷ [])) holds 2

abbrev pub circle_is_cut : Type 0
circle_is_cut = Answered circle 32 (goal₁ 0 (int 1) ∷ []) unsettled 32

-- p(a,1). q(5).
abbrev pub apart : Program
apart s n = cond (s == 0 && n == 2) (fact (goal₂ 0 (atom 1) (int 1)) ∷ []) (cond (s == 1 && n == 1) (fact (goal₁ 1 (int 5)) ∷ []) [])

-- p(Y,2), q(Y): the false step keeps the old equations, so Y is still free for q(5); had it kept Y = a, an integer would meet an atom
abbrev pub old_equations_kept : Type 0
old_equations_kept = Answered apart 32 (goal₂ 0 (var 0) (int 2) ∷ (goal₁ 1 (var 0) ∷ [])) fails 2

-- an allowance of 2 steps is too small for the tree of p(1), and one of 3 is not
abbrev pub three_steps : Type 0
three_steps = (t : Tree) → IsTree numbers form 32 true (goal₁ 0 (int 1) ∷ []) [] 0 t → (2 < steps t) × (steps t ≤ 3)

-- equations and questions, joined
abbrev pub Worked : Type 0
Worked = equations.Worked × numbers_hold × three_steps × wrong_after_false × fails_after_false × old_equations_kept × cut_at_one × circle_is_cut
