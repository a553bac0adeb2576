-- A search keeps what it is to gather: each move of it, seen as a change of what was gathered and of the work that is left.
use Rattle.std.proofs.Common.{◌≡◌, ℕ, suc, ◌<◌, ◌≤◌, Bool, true, List, [], ◌∷◌, ◌++◌, sym, refl, ap, ◌∙◌, arith}
use Rattle.typing.proofs.Orders.{every_order}
use Rattle.trees.specs.Terms.{Eqs, Signature, Outcome, OutcomeOf}
use Rattle.trees.specs.Tree.{Goal, Clause, Program, listed, new_body, with_head, Tree, Trees, IsTree, is_cut, is_dropped, is_branch, AreTrees, by_none, by_wrong, by_false, by_solved}
use Rattle.trees.specs.Summaries.{Summary, ◌⊕◌, nothing, tick, at_success, at_failed, at_cut, summary, summaries}
use Rattle.trees.specs.Search.{Work, node, tries, Runs, on_success, on_failed, on_cut, on_empty, on_goal, no_clause, on_wrong, on_false, on_solved, Toward}
use Rattle.trees.proofs.Summaries.{nothing_⊕, ⊕_nothing}
use Rattle.trees.proofs.Search.{ends, weighed, gathers}
use Rattle.trees.proofs.Uniques.{one, ones}

-- below the limit a node with goals has a step, and so has a goal with a clause left
some_step : {P : Program} {kind : Signature} {limit : ℕ} {f : Bool} {g : Goal} {gs : List Goal} {E : Eqs} {k : ℕ} {t : Tree} (r : List ℕ) → k < limit → IsTree P kind limit f (g ∷ gs) E k t → 1 ≤ (summary r t).edges
some_step r l (is_cut x) = absurd (omega arith)
some_step r l (is_dropped x e u) = omega arith
some_step r l (is_branch x us) = omega arith

some_steps : {P : Program} {kind : Signature} {limit : ℕ} {f : Bool} {g : Goal} {gs : List Goal} {E : Eqs} {k : ℕ} {c : Clause} {cs : List Clause} {ts : Trees} (r : List ℕ) (i : ℕ) → AreTrees P kind limit f g gs E k (c ∷ cs) ts → 1 ≤ (summaries r i ts).edges
some_steps r i (by_wrong o us) = omega arith
some_steps r i (by_false o u us) = omega arith
some_steps r i (by_solved o u us) = omega arith

module _ (P : Program) (kind : Signature) (limit : ℕ) (whole : Summary) where
  judge : (E : Eqs) → (o : Outcome) × OutcomeOf kind E o
  judge E = let c = (every_order kind E).comes_to_one in (c.0, ((every_order kind E).comes_when c.0).0 c.1)

  advance : (a b : Summary) (w v : List Work) → ((z : Summary) → Runs P kind limit b v z → Runs P kind limit a w z) → Toward P kind limit whole a w → Toward P kind limit whole b v
  advance a b w v on t s h =
      let q = weighed P kind judge limit w in
      gathers (on (b ⊕ s) (ends v b s h)) q.0 q.1 ∙ t q.0 q.1

  -- nothing is left
  pub toward_end : (a : Summary) → Toward P kind limit whole a [] → a ≡ whole
  toward_end a t = sym (⊕_nothing a) ∙ t nothing refl

  module _ (a : Summary) (w : List Work) (r : List ℕ) (E : Eqs) (k : ℕ) where
    -- a node is a leaf
    pub toward_success : Toward P kind limit whole a (node r true [] E k ∷ w) → Toward P kind limit whole (a ⊕ at_success r) w
    toward_success = advance a (a ⊕ at_success r) (node r true [] E k ∷ w) w (λ z n. on_success n)

    pub toward_failed : Toward P kind limit whole a (node r Bool.false [] E k ∷ w) → Toward P kind limit whole (a ⊕ at_failed) w
    toward_failed = advance a (a ⊕ at_failed) (node r Bool.false [] E k ∷ w) w (λ z n. on_failed n)

    module _ (f : Bool) (g : Goal) (gs : List Goal) where
      pub toward_cut : limit ≤ k → Toward P kind limit whole a (node r f (g ∷ gs) E k ∷ w) → Toward P kind limit whole (a ⊕ at_cut) w
      toward_cut l = advance a (a ⊕ at_cut) (node r f (g ∷ gs) E k ∷ w) w (λ z n. on_cut l n)

      -- a node's first goal is taken
      pub toward_goal : k < limit → (listed P g ≡ [] → ⊥) → Toward P kind limit whole a (node r f (g ∷ gs) E k ∷ w) → Toward P kind limit whole a (tries r 0 f g gs E k (listed P g) ∷ w)
      toward_goal l e = advance a a (node r f (g ∷ gs) E k ∷ w) (tries r 0 f g gs E k (listed P g) ∷ w) (λ z n. on_goal l e n)

      -- no clause is left, so this work weighs nothing
      pub toward_done : (i : ℕ) → Toward P kind limit whole a (tries r i f g gs E k [] ∷ w) → Toward P kind limit whole a w
      toward_done i = advance a a (tries r i f g gs E k [] ∷ w) w (λ z n. no_clause n)

      -- a goal without clauses is dropped; work without clauses may be noted behind
      pub toward_dropped : k < limit → listed P g ≡ [] → Toward P kind limit whole a (node r f (g ∷ gs) E k ∷ w)
          → Toward P kind limit whole (a ⊕ tick) (node r Bool.false gs E (suc k) ∷ (tries r 1 f g gs E k [] ∷ w))
      toward_dropped l e t s h =
          let n = node r Bool.false gs E (suc k) in
          let none : h.3.0 ≡ nothing = sym h.3.2.2 ∙ ap (summaries r 1) (ones h.3.2.1 by_none) in
          let b : h.3.1 ≡ h.1 = sym (nothing_⊕ h.3.1) ∙ (ap (λ (x : Summary). x ⊕ h.3.1) (sym none) ∙ h.3.4) in
          advance a (a ⊕ tick) (node r f (g ∷ gs) E k ∷ w) (n ∷ w) (λ z m. on_empty l e m) t s
          (h.0, h.3.1, h.2, h.3.3, ap (λ (x : Summary). h.0 ⊕ x) b ∙ h.4)

      -- a step with a clause
      module _ (i : ℕ) (c : Clause) (cs : List Clause) where
        pub toward_wrong : OutcomeOf kind (with_head k g c E) Outcome.wrong → Toward P kind limit whole a (tries r i f g gs E k (c ∷ cs) ∷ w)
            → Toward P kind limit whole (a ⊕ tick) (tries r (suc i) f g gs E k cs ∷ w)
        toward_wrong o = advance a (a ⊕ tick) (tries r i f g gs E k (c ∷ cs) ∷ w) (tries r (suc i) f g gs E k cs ∷ w) (λ z n. on_wrong o n)

        pub toward_false : OutcomeOf kind (with_head k g c E) Outcome.false → Toward P kind limit whole a (tries r i f g gs E k (c ∷ cs) ∷ w)
            → Toward P kind limit whole (a ⊕ tick) (node (r ++ (i ∷ [])) Bool.false gs E (suc k) ∷ (tries r (suc i) f g gs E k cs ∷ w))
        toward_false o = advance a (a ⊕ tick) (tries r i f g gs E k (c ∷ cs) ∷ w) (node (r ++ (i ∷ [])) Bool.false gs E (suc k) ∷ (tries r (suc i) f g gs E k cs ∷ w)) (λ z n. on_false o n)

        pub toward_solved : OutcomeOf kind (with_head k g c E) Outcome.solved → Toward P kind limit whole a (tries r i f g gs E k (c ∷ cs) ∷ w)
            → Toward P kind limit whole (a ⊕ tick) (node (r ++ (i ∷ [])) f (new_body k c ++ gs) (with_head k g c E) (suc k) ∷ (tries r (suc i) f g gs E k cs ∷ w))
        toward_solved o = advance a (a ⊕ tick) (tries r i f g gs E k (c ∷ cs) ∷ w) (node (r ++ (i ∷ [])) f (new_body k c ++ gs) (with_head k g c E) (suc k) ∷ (tries r (suc i) f g gs E k cs ∷ w)) (λ z n. on_solved o n)

        -- there is a step to come, so the whole has more steps than were gathered
        pub counts_tries : Toward P kind limit whole a (tries r i f g gs E k (c ∷ cs) ∷ w) → a.edges < whole.edges
        counts_tries t =
            let q = weighed P kind judge limit (tries r i f g gs E k (c ∷ cs) ∷ w) in
            let m = some_steps r i q.1.2.1 in
            let e = ap (λ (x : Summary). x.edges) (t q.0 q.1) in
            let x = ap (λ (x : Summary). x.edges) q.1.2.2 in let y = ap (λ (x : Summary). x.edges) q.1.4 in
            omega arith

      pub counts_node : k < limit → Toward P kind limit whole a (node r f (g ∷ gs) E k ∷ w) → a.edges < whole.edges
      counts_node l t =
          let q = weighed P kind judge limit (node r f (g ∷ gs) E k ∷ w) in
          let m = some_step r l q.1.2.1 in
          let e = ap (λ (x : Summary). x.edges) (t q.0 q.1) in
          let x = ap (λ (x : Summary). x.edges) q.1.2.2 in let y = ap (λ (x : Summary). x.edges) q.1.4 in
          omega arith

-- the root's work weighs its tree
pub toward_start : (P : Program) (kind : Signature) (limit : ℕ) (f : Bool) (gs : List Goal) (E : Eqs) (k : ℕ) (t : Tree) → IsTree P kind limit f gs E k t
    → Toward P kind limit (summary [] t) nothing (node [] f gs E k ∷ [])
toward_start P kind limit f gs E k t is s h =
    nothing_⊕ s ∙ (sym h.4 ∙ (ap (λ (x : Summary). h.0 ⊕ x) (sym h.3) ∙ (⊕_nothing h.0 ∙ (sym h.2.2 ∙ ap (summary []) (one h.2.1 is)))))
