use Rattle.std.proofs.Common.{◌≡◌, ℕ, zero, suc, ◌+◌, true, [], ◌∷◌, refl, ap, arith}
use Rattle.trees.specs.Terms.{Term, var, fun, none, more, Subst, apply, Eqs, Unifies, Solvable, Fitting, base}
use Rattle.trees.specs.Tree.{Tree, success, failed, wrong, cut, branch, and, no_more, IsTree, is_success, is_failed, is_cut, is_branch, by_none, by_wrong, by_false, by_solved, with_head, steps}
use Rattle.typing.proofs.Examples as equations
use Rattle.trees.proofs.Uniques.{one_tree}
use Rattle.trees.specs.Worked.{form, int, atom, goal₁, goal₂, fact, circle, numbers, numbers_hold, wrong_after_false, fails_after_false, cut_at_one, circle_is_cut, three_steps, old_equations_kept, Worked}
use Rattle.trees.proofs.Summaries.{summed}

abbrev ones : Subst
ones x = int 1

abbrev number_tree : Tree
number_tree = branch (and failed (and success (and wrong no_more)))

unlike₁ : ¬ Solvable (with_head 0 (goal₁ 0 (int 1)) (fact (goal₁ 0 (int 0))) [])
unlike₁ s = let e = s.1.0 in let z : ◌≡◌ {A = ℕ} 1 0 = cc in omega arith

unlike₂ : ¬ Solvable (with_head 0 (goal₂ 0 (int 1) (int 2)) (fact (goal₂ 0 (var 0) (var 0))) [])
unlike₂ s = let e = s.1.0 in let z : ◌≡◌ {A = ℕ} 1 2 = cc in omega arith

unfit₁ : ¬ Fitting form (with_head 0 (goal₁ 0 (int 1)) (fact (goal₁ 0 (atom 1))) [])
unfit₁ s = let e = s.1.0 in let z : ◌≡◌ {A = ℕ} 0 2 = cc in omega arith

unfit₂ : ¬ Fitting form (with_head 1 (goal₂ 0 (int 1) (atom 1)) (fact (goal₂ 0 (var 0) (var 0))) [])
unfit₂ s = let e = s.1.0 in let z : ◌≡◌ {A = ℕ} 0 2 = cc in omega arith

t1 : numbers_hold
t1 = (
  record {
    tree = number_tree;
    is = is_branch (omega arith)
        (by_false (((λ x. base 0), (refl, tt)), unlike₁) is_failed
        (by_solved (ones, (refl, tt)) is_success
        (by_wrong unfit₁ by_none)));
    verdict = (summed number_tree).verdict;
    steps_are = refl;
  },
  (summed number_tree).best,
)

abbrev lone : Tree → Tree
lone t = branch (and t no_more)

t2 : wrong_after_false
t2 = record {
  tree = lone (lone wrong);
  is = is_branch (omega arith) (by_false (((λ x. base 0), (refl, tt)), unlike₂)
      (is_branch (omega arith) (by_wrong unfit₂ by_none)) by_none);
  verdict = (summed (lone (lone wrong))).verdict;
  steps_are = refl;
}

t3 : fails_after_false
t3 = record {
  tree = lone (lone failed);
  is = is_branch (omega arith) (by_false (((λ x. base 0), (refl, tt)), unlike₂)
      (is_branch (omega arith) (by_solved (ones, (refl, tt)) is_failed by_none)) by_none);
  verdict = (summed (lone (lone failed))).verdict;
  steps_are = refl;
}

t4 : cut_at_one
t4 = (
  record {
    tree = lone cut;
    is = is_branch (omega arith) (by_solved (ones, (refl, tt)) (is_cut (omega arith)) by_none);
    verdict = (summed (lone cut)).verdict;
    steps_are = refl;
  },
  record {
    tree = lone (lone success);
    is = is_branch (omega arith) (by_solved (ones, (refl, tt)) (is_branch (omega arith) (by_solved (ones, (refl, (refl, tt))) is_success by_none)) by_none);
    verdict = (summed (lone (lone success))).verdict;
    steps_are = refl;
  },
)

abbrev chain : ℕ → Tree
chain zero = cut
chain (suc n) = lone (chain n)

turns : (n k : ℕ) (t : Term) (E : Eqs) → n + k ≡ 32 → Unifies ones E → apply ones t ≡ int 1 → IsTree circle form 32 true (goal₁ 0 t ∷ []) E k (chain n)
turns zero k t E l u e = is_cut (omega arith)
turns (suc n) k t E l u e =
    let w : Unifies ones (with_head k (goal₁ 0 t) (record { head = goal₁ 0 (var 0); body = goal₁ 0 (var 0) ∷ [] }) E) = (ap (λ (x : Term). fun 0 (more x none)) e, u) in
    is_branch (omega arith) (by_solved (ones, w) (turns n (suc k) _ _ (omega arith) w refl) by_none)

t5 : circle_is_cut
t5 = record { tree = chain 32; is = turns 32 0 (int 1) [] refl tt refl; verdict = (summed (chain 32)).verdict; steps_are = refl }

unlike₃ : ¬ Solvable (with_head 0 (goal₂ 0 (var 0) (int 2)) (fact (goal₂ 0 (atom 1) (int 1))) [])
unlike₃ s = let e = s.1.0 in let z : ◌≡◌ {A = ℕ} 2 1 = cc in omega arith

kept : old_equations_kept
kept = record {
  tree = lone (lone failed);
  is = is_branch (omega arith)
      (by_false (((λ x. base 2), (refl, tt)), unlike₃)
      (is_branch (omega arith) (by_solved ((λ x. int 5), (refl, tt)) is_failed by_none))
      by_none);
  verdict = (summed (lone (lone failed))).verdict;
  steps_are = refl;
}

three : three_steps
unfolding t1
three t is =
    let e : steps t ≡ 3 = ap steps (one_tree numbers form 32 true (goal₁ 0 (int 1) ∷ []) [] 0 t number_tree is t1.0.is) in
    (omega arith, omega arith)

pub worked : Worked
worked = (equations.worked, t1, three, t2, t3, kept, t4, t5)
