-- A node has one tree, and with outcomes at hand it has a tree
use Rattle.std.proofs.Common.{◌≡◌, ℕ, zero, suc, ◌+◌, ◌<◌, ◌≤◌, Bool, true, List, [], ◌∷◌, ◌++◌, sym, refl, ap, subst, ap₂, arith}
use native.Mathlib.Decide.{dec_lt}
use Rattle.trees.specs.Terms.{Eqs, Signature, Outcome, OutcomeOf}
use Rattle.trees.specs.Tree.{Goal, Clause, Program, listed, new_body, with_head, Tree, Trees, IsTree, is_success, is_failed, is_cut, is_dropped, is_branch, AreTrees, by_none, by_wrong, by_false, by_solved}
use Rattle.trees.specs.Verdicts.{holds, unsettled, erroneous, fails}
use Rattle.trees.specs.Claims.{OneVerdict, SomeTree, OneTree}
use Rattle.trees.proofs.Outcomes.{fitting}

differ : {A : Type 0} → Bool.false ≡ true → A
differ e = let z : ◌≡◌ {A = ℕ} 0 1 = cc in absurd (omega arith)

pub no_clause : {P : Program} {kind : Signature} {limit : ℕ} {f : Bool} {g : Goal} {gs : List Goal} {E : Eqs} {k : ℕ} {cs : List Clause} {t : Tree} {ts : Trees} →
    AreTrees P kind limit f g gs E k cs (Trees.and t ts) → cs ≡ [] → ⊥
no_clause (by_wrong {c = c} {cs = cs} o r) e = let z : ◌≡◌ {A = ℕ} 0 1 = cc in omega arith
no_clause (by_false {c = c} {cs = cs} o t r) e = let z : ◌≡◌ {A = ℕ} 0 1 = cc in omega arith
no_clause (by_solved {c = c} {cs = cs} o t r) e = let z : ◌≡◌ {A = ℕ} 0 1 = cc in omega arith

mutual
  pub one : {P : Program} {kind : Signature} {limit : ℕ} {f : Bool} {gs : List Goal} {E : Eqs} {k : ℕ} {t u : Tree} →
      IsTree P kind limit f gs E k t → IsTree P kind limit f gs E k u → t ≡ u
  one (is_success) (is_success) = refl
  one (is_failed) (is_failed) = refl
  one (is_cut x) (is_cut y) = refl
  one (is_cut x) (is_dropped y e t) = absurd (omega arith)
  one (is_cut x) (is_branch y ts) = absurd (omega arith)
  one (is_dropped x e t) (is_cut y) = absurd (omega arith)
  one (is_dropped x e t) (is_dropped y d u) = ap Tree.dropped (one t u)
  one (is_dropped x e t) (is_branch y us) = absurd (no_clause us e)
  one (is_branch x ts) (is_cut y) = absurd (omega arith)
  one (is_branch x ts) (is_dropped y e u) = absurd (no_clause ts e)
  one (is_branch x ts) (is_branch y us) = ap Tree.branch (ones ts us)

  pub ones : {P : Program} {kind : Signature} {limit : ℕ} {f : Bool} {g : Goal} {gs : List Goal} {E : Eqs} {k : ℕ} {cs : List Clause} {ts us : Trees} →
      AreTrees P kind limit f g gs E k cs ts → AreTrees P kind limit f g gs E k cs us → ts ≡ us
  ones (by_none) (by_none) = refl
  ones (by_wrong o r) (by_wrong p s) = ap (Trees.and Tree.wrong) (ones r s)
  ones (by_wrong o r) (by_false p u s) = absurd (o p.0)
  ones {kind = kind} {g = g} {E = E} {k = k} (by_wrong {c = c} o r) (by_solved p u s) = absurd (o (fitting (with_head k g c E) kind p))
  ones (by_false o t r) (by_wrong p s) = absurd (p o.0)
  ones (by_false o t r) (by_false p u s) = ap₂ Trees.and (one t u) (ones r s)
  ones (by_false o t r) (by_solved p u s) = absurd (o.1 p)
  ones {kind = kind} {g = g} {E = E} {k = k} (by_solved {c = c} o t r) (by_wrong p s) = absurd (p (fitting (with_head k g c E) kind o))
  ones (by_solved o t r) (by_false p u s) = absurd (p.1 o)
  ones (by_solved o t r) (by_solved p u s) = ap₂ Trees.and (one t u) (ones r s)

pub one_tree : OneTree
one_tree P kind limit f gs E k t u a b = one a b

module _ (P : Program) (kind : Signature) (judge : (E : Eqs) → (o : Outcome) × OutcomeOf kind E o) (limit : ℕ) where
  -- the trees of the nodes one step on
  Next : ℕ → Type 0
  Next k = (f : Bool) (gs : List Goal) (E : Eqs) → (t : Tree) × IsTree P kind limit f gs E (suc k) t

  child : (f : Bool) (g : Goal) (gs : List Goal) (E : Eqs) (k : ℕ) → Next k → (c : Clause) (cs : List Clause) (ts : Trees) →
      AreTrees P kind limit f g gs E k cs ts → (t : Tree) × AreTrees P kind limit f g gs E k (c ∷ cs) (Trees.and t ts)
  unfolding Next
  child f g gs E k next c cs ts r = go (judge (with_head k g c E)).0 (judge (with_head k g c E)).1
    where
      go : (o : Outcome) → OutcomeOf kind (with_head k g c E) o → (t : Tree) × AreTrees P kind limit f g gs E k (c ∷ cs) (Trees.and t ts)
      go Outcome.solved o = let w = next f (new_body k c ++ gs) (with_head k g c E) in (w.0, by_solved o w.1 r)
      go Outcome.false o = let w = next Bool.false gs E in (w.0, by_false o w.1 r)
      go Outcome.wrong o = (Tree.wrong, by_wrong o r)

  children : (f : Bool) (g : Goal) (gs : List Goal) (E : Eqs) (k : ℕ) → Next k → (cs : List Clause) → (ts : Trees) × AreTrees P kind limit f g gs E k cs ts
  children f g gs E k next [] = (Trees.no_more, by_none)
  children f g gs E k next (c ∷ cs) =
      let w = children f g gs E k next cs in
      let v = child f g gs E k next c cs w.0 w.1 in
      (Trees.and v.0 w.0, v.1)

  taken : (f : Bool) (g : Goal) (gs : List Goal) (E : Eqs) (k : ℕ) → k < limit → Next k → (t : Tree) × IsTree P kind limit f (g ∷ gs) E k t
  unfolding Next
  taken f g gs E k l next = go (listed P g) refl
    where
      go : (cs : List Clause) → listed P g ≡ cs → (t : Tree) × IsTree P kind limit f (g ∷ gs) E k t
      go [] e = let w = next Bool.false gs E in (Tree.dropped w.0, is_dropped l e w.1)
      go (c ∷ cs) e =
          let w = children f g gs E k next cs in
          let v = child f g gs E k next c cs w.0 w.1 in
          (Tree.branch (Trees.and v.0 w.0), is_branch l (subst (λ x. AreTrees P kind limit f g gs E k x (Trees.and v.0 w.0)) (sym e) v.1))

  grown : (n : ℕ) (f : Bool) (gs : List Goal) (E : Eqs) (k : ℕ) → limit ≤ n + k → (t : Tree) × IsTree P kind limit f gs E k t
  unfolding Next
  grown zero true [] E k l = (Tree.success, is_success)
  grown zero Bool.false [] E k l = (Tree.failed, is_failed)
  grown zero f (g ∷ gs) E k l = (Tree.cut, is_cut (omega arith))
  grown (suc n) true [] E k l = (Tree.success, is_success)
  grown (suc n) Bool.false [] E k l = (Tree.failed, is_failed)
  grown (suc n) f (g ∷ gs) E k l = go (dec_lt k limit) (λ f' gs' E'. grown n f' gs' E' (suc k) (omega arith))
    where
      go : Dec (k < limit) → Next k → (t : Tree) × IsTree P kind limit f (g ∷ gs) E k t
      go (yes a) next = taken f g gs E k a next
      go (no a) next = (Tree.cut, is_cut (omega arith))

pub some_tree : SomeTree
some_tree P kind judge limit f gs E k = grown P kind judge limit limit f gs E k (omega arith)

pub some_trees : (P : Program) (kind : Signature) → ((E : Eqs) → (o : Outcome) × OutcomeOf kind E o) →
    (limit : ℕ) (f : Bool) (g : Goal) (gs : List Goal) (E : Eqs) (k : ℕ) (cs : List Clause) → (ts : Trees) × AreTrees P kind limit f g gs E k cs ts
unfolding Next
some_trees P kind judge limit f g gs E k cs = children P kind judge limit f g gs E k (λ f' gs' E'. some_tree P kind judge limit f' gs' E' (suc k)) cs

pub one_verdict : OneVerdict
one_verdict t holds holds a b = refl
one_verdict t holds unsettled a b = absurd (b.0 a)
one_verdict t holds erroneous a b = absurd (b.0 a)
one_verdict t holds fails a b = absurd (b.0 a)
one_verdict t unsettled holds a b = absurd (a.0 b)
one_verdict t unsettled unsettled a b = refl
one_verdict t unsettled erroneous a b = absurd (b.1 a.1)
one_verdict t unsettled fails a b = absurd (b.1 a.1)
one_verdict t erroneous holds a b = absurd (a.0 b)
one_verdict t erroneous unsettled a b = absurd (a.1 b.1)
one_verdict t erroneous erroneous a b = refl
one_verdict t erroneous fails a b = absurd (b.2 a.2)
one_verdict t fails holds a b = absurd (a.0 b)
one_verdict t fails unsettled a b = absurd (a.1 b.1)
one_verdict t fails erroneous a b = absurd (a.2 b.2)
one_verdict t fails fails a b = refl
