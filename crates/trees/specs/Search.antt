-- A depth-first search with a stack of work, and what its stack still weighs
use Rattle.std.specs.Prelude.{◌≡◌, ℕ, suc, ◌+◌, ◌*◌, ◌<◌, ◌≤◌, Bool, true, ◌↔◌, List, [], ◌∷◌, ◌++◌, ◌≢◌}
use Rattle.trees.specs.Terms.{Eqs, Signature, Outcome, OutcomeOf}
use Rattle.trees.specs.Tree.{Goal, Clause, Program, listed, new_body, with_head, Tree, Trees, IsTree, AreTrees, steps}
use Rattle.trees.specs.Summaries.{Summary, ◌⊕◌, nothing, tick, at_success, at_failed, at_cut, summary, summaries, Summed}

-- a node to visit, reached along a path; or the clauses still to try at a node's first goal, from a number on
pub data Work : Type 0 where
  node : List ℕ → Bool → List Goal → Eqs → ℕ → Work
  tries : List ℕ → ℕ → Bool → Goal → List Goal → Eqs → ℕ → List Clause → Work

-- from a summary and a stack of work the search ends with a summary
pub data Runs (P : Program) (kind : Signature) (limit : ℕ) : Summary → List Work → Summary → Type 0 where
  ended : {a : Summary} → Runs P kind limit a [] a
  on_success : {a z : Summary} {w : List Work} {r : List ℕ} {E : Eqs} {k : ℕ} →
      Runs P kind limit (a ⊕ at_success r) w z → Runs P kind limit a (node r true [] E k ∷ w) z
  on_failed : {a z : Summary} {w : List Work} {r : List ℕ} {E : Eqs} {k : ℕ} →
      Runs P kind limit (a ⊕ at_failed) w z → Runs P kind limit a (node r Bool.false [] E k ∷ w) z
  on_cut : {a z : Summary} {w : List Work} {r : List ℕ} {f : Bool} {g : Goal} {gs : List Goal} {E : Eqs} {k : ℕ} → limit ≤ k →
      Runs P kind limit (a ⊕ at_cut) w z → Runs P kind limit a (node r f (g ∷ gs) E k ∷ w) z
  on_empty : {a z : Summary} {w : List Work} {r : List ℕ} {f : Bool} {g : Goal} {gs : List Goal} {E : Eqs} {k : ℕ} → k < limit → listed P g ≡ [] →
      Runs P kind limit (a ⊕ tick) (node r Bool.false gs E (suc k) ∷ w) z → Runs P kind limit a (node r f (g ∷ gs) E k ∷ w) z
  on_goal : {a z : Summary} {w : List Work} {r : List ℕ} {f : Bool} {g : Goal} {gs : List Goal} {E : Eqs} {k : ℕ} → k < limit → (listed P g ≢ []) →
      Runs P kind limit a (tries r 0 f g gs E k (listed P g) ∷ w) z → Runs P kind limit a (node r f (g ∷ gs) E k ∷ w) z
  no_clause : {a z : Summary} {w : List Work} {r : List ℕ} {i : ℕ} {f : Bool} {g : Goal} {gs : List Goal} {E : Eqs} {k : ℕ} →
      Runs P kind limit a w z → Runs P kind limit a (tries r i f g gs E k [] ∷ w) z
  on_wrong : {a z : Summary} {w : List Work} {r : List ℕ} {i : ℕ} {f : Bool} {g : Goal} {gs : List Goal} {E : Eqs} {k : ℕ} {c : Clause} {cs : List Clause} →
      OutcomeOf kind (with_head k g c E) Outcome.wrong →
      Runs P kind limit (a ⊕ tick) (tries r (suc i) f g gs E k cs ∷ w) z → Runs P kind limit a (tries r i f g gs E k (c ∷ cs) ∷ w) z
  on_false : {a z : Summary} {w : List Work} {r : List ℕ} {i : ℕ} {f : Bool} {g : Goal} {gs : List Goal} {E : Eqs} {k : ℕ} {c : Clause} {cs : List Clause} →
      OutcomeOf kind (with_head k g c E) Outcome.false →
      Runs P kind limit (a ⊕ tick) (node (r ++ (i ∷ [])) Bool.false gs E (suc k) ∷ (tries r (suc i) f g gs E k cs ∷ w)) z →
      Runs P kind limit a (tries r i f g gs E k (c ∷ cs) ∷ w) z
  on_solved : {a z : Summary} {w : List Work} {r : List ℕ} {i : ℕ} {f : Bool} {g : Goal} {gs : List Goal} {E : Eqs} {k : ℕ} {c : Clause} {cs : List Clause} →
      OutcomeOf kind (with_head k g c E) Outcome.solved →
      Runs P kind limit (a ⊕ tick) (node (r ++ (i ∷ [])) f (new_body k c ++ gs) (with_head k g c E) (suc k) ∷ (tries r (suc i) f g gs E k cs ∷ w)) z →
      Runs P kind limit a (tries r i f g gs E k (c ∷ cs) ∷ w) z

-- what work is still worth
abbrev pub Weighs : Program → Signature → ℕ → Work → Summary → Type 0
Weighs P kind limit (node r f gs E k) s = (t : Tree) × IsTree P kind limit f gs E k t × (summary r t ≡ s)
Weighs P kind limit (tries r i f g gs E k cs) s = (ts : Trees) × AreTrees P kind limit f g gs E k cs ts × (summaries r i ts ≡ s)

abbrev pub Weigh : Program → Signature → ℕ → List Work → Summary → Type 0
Weigh P kind limit [] s = nothing ≡ s
Weigh P kind limit (x ∷ w) s = (a b : Summary) × Weighs P kind limit x a × Weigh P kind limit w b × (a ⊕ b ≡ s)

-- a search gathers what its stack weighs: it can end, and only so
abbrev pub SearchLaw : Type 0
SearchLaw = (P : Program) (kind : Signature) (limit : ℕ) (a s z : Summary) (w : List Work) → Weigh P kind limit w s → (Runs P kind limit a w z ↔ (z ≡ a ⊕ s))

-- how many moves a search made
abbrev pub moves : {P : Program} {kind : Signature} {limit : ℕ} {a z : Summary} {w : List Work} → Runs P kind limit a w z → ℕ
moves (ended) = 0
moves (on_success n) = suc (moves n)
moves (on_failed n) = suc (moves n)
moves (on_cut l n) = suc (moves n)
moves (on_empty l e n) = suc (moves n)
moves (on_goal l e n) = suc (moves n)
moves (no_clause n) = suc (moves n)
moves (on_wrong o n) = suc (moves n)
moves (on_false o n) = suc (moves n)
moves (on_solved o n) = suc (moves n)

abbrev pub cost : List Work → ℕ
cost [] = 0
cost (node r f gs E k ∷ w) = 2 + cost w
cost (tries r i f g gs E k cs ∷ w) = 1 + cost w

-- at most three moves for a step, and what stands on the stack
abbrev pub MovesLaw : Type 0
MovesLaw = (P : Program) (kind : Signature) (limit : ℕ) (a z : Summary) (w : List Work) (n : Runs P kind limit a w z) → moves n + 3 * a.edges ≤ 3 * z.edges + cost w

-- a search from the root ends with the summary of the question's tree
abbrev pub RootLaw : Type 0
RootLaw = (P : Program) (kind : Signature) (limit : ℕ) (gs : List Goal) (E : Eqs) (t : Tree) (z : Summary) → IsTree P kind limit true gs E 0 t →
    Runs P kind limit nothing (node [] true gs E 0 ∷ []) z → Summed t z

-- the state of a summary and a stack is one on the way from the root: whatever it ends with, the search from the root ends with
abbrev pub OnTheWay : Program → Signature → ℕ → List Goal → Eqs → Summary → List Work → Type 0
OnTheWay P kind limit gs E a w = (z : Summary) → Runs P kind limit a w z → Runs P kind limit nothing (node [] true gs E 0 ∷ []) z

-- on the way no more steps have been counted than the tree has; so a arity past an allowance shows that the tree is past it
abbrev pub CountLaw : Type 0
CountLaw = (P : Program) (kind : Signature) → ((E : Eqs) → (o : Outcome) × OutcomeOf kind E o) →
    (limit : ℕ) (gs : List Goal) (E : Eqs) (t : Tree) (a : Summary) (w : List Work) → IsTree P kind limit true gs E 0 t →
    OnTheWay P kind limit gs E a w → a.edges ≤ steps t

-- what was gathered so far, with what the work still weighs, is the whole
abbrev pub Toward : Program → Signature → ℕ → Summary → Summary → List Work → Type 0
Toward P kind limit whole a w = (s : Summary) → Weigh P kind limit w s → a ⊕ s ≡ whole
