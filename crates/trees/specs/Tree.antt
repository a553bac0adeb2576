-- Goals, clauses, programs and the cut tree
use Rattle.std.specs.Prelude.{◌≡◌, ℕ, zero, suc, ◌+◌, ◌*◌, ◌<◌, ◌≤◌, Bool, true, List, [], ◌∷◌, ◌++◌}
use Rattle.trees.specs.Terms.{Terms, var, fun, arity, Subst, applies, Belows, Eqs, ◌≈◌, Signature, Outcome, OutcomeOf}

pub record Goal : Type 0 where
  pub symbol : ℕ
  pub arguments : Terms

-- a goal with its variables replaced
abbrev pub instance_of : Subst → Goal → Goal
instance_of θ g = record { symbol = g.symbol; arguments = applies θ g.arguments }

abbrev pub instances : Subst → List Goal → List Goal
instances θ [] = []
instances θ (g ∷ gs) = instance_of θ g ∷ instances θ gs

abbrev pub GoalBelow : ℕ → Goal → Type 0
GoalBelow n g = Belows n g.arguments

abbrev pub GoalsBelow : ℕ → List Goal → Type 0
GoalsBelow n [] = Unit {0}
GoalsBelow n (g ∷ gs) = GoalBelow n g × GoalsBelow n gs

pub record Clause : Type 0 where
  pub head : Goal
  pub body : List Goal

-- a source's meaning: for each symbol and arity a list of clauses
abbrev pub Program : Type 0
Program = ℕ → ℕ → List Clause

abbrev pub listed : Program → Goal → List Clause
listed P g = P g.symbol (arity g.arguments)

-- every clause has its variables below 32
abbrev pub ClausesSmall : List Clause → Type 0
ClausesSmall [] = Unit {0}
ClausesSmall (c ∷ cs) = (GoalBelow 32 c.head × GoalsBelow 32 c.body) × ClausesSmall cs

abbrev pub Small : Program → Type 0
Small P = (s a : ℕ) → ClausesSmall (P s a)

-- every variable number raised by b
abbrev pub raised : ℕ → Subst
raised b x = var (b + x)

-- the first of the new variables of the step with number k
abbrev pub fresh : ℕ → ℕ
fresh k = 32 + 32 * k

abbrev pub new_head : ℕ → Clause → Goal
new_head k c = instance_of (raised (fresh k)) c.head

abbrev pub new_body : ℕ → Clause → List Goal
new_body k c = instances (raised (fresh k)) c.body

-- the equations of a node with those of a goal and a clause's head, made new
abbrev pub with_head : ℕ → Goal → Clause → Eqs → Eqs
with_head k g c E = (fun g.symbol g.arguments ≈ fun (new_head k c).symbol (new_head k c).arguments) ∷ E

mutual
  pub data Tree : Type 0 where
    success failed wrong cut : Tree
    dropped : Tree → Tree
    branch : Trees → Tree

  pub data Trees : Type 0 where
    no_more : Trees
    and : Tree → Trees → Trees

mutual
  -- t is the cut tree under the node of a flag, goals, equations and step number
  pub data IsTree (P : Program) (kind : Signature) (limit : ℕ) : Bool → List Goal → Eqs → ℕ → Tree → Type 0 where
    is_success : {E : Eqs} {k : ℕ} → IsTree P kind limit true [] E k success
    is_failed : {E : Eqs} {k : ℕ} → IsTree P kind limit Bool.false [] E k failed
    is_cut : {f : Bool} {g : Goal} {gs : List Goal} {E : Eqs} {k : ℕ} → limit ≤ k → IsTree P kind limit f (g ∷ gs) E k cut
    is_dropped : {f : Bool} {g : Goal} {gs : List Goal} {E : Eqs} {k : ℕ} {t : Tree} → k < limit → listed P g ≡ [] →
        IsTree P kind limit Bool.false gs E (suc k) t → IsTree P kind limit f (g ∷ gs) E k (dropped t)
    is_branch : {f : Bool} {g : Goal} {gs : List Goal} {E : Eqs} {k : ℕ} {t : Tree} {ts : Trees} → k < limit →
        AreTrees P kind limit f g gs E k (listed P g) (and t ts) → IsTree P kind limit f (g ∷ gs) E k (branch (and t ts))

  -- ts are the trees after the steps of a node's first goal with the clauses cs, in order
  pub data AreTrees (P : Program) (kind : Signature) (limit : ℕ) : Bool → Goal → List Goal → Eqs → ℕ → List Clause → Trees → Type 0 where
    by_none : {f : Bool} {g : Goal} {gs : List Goal} {E : Eqs} {k : ℕ} → AreTrees P kind limit f g gs E k [] no_more
    by_wrong : {f : Bool} {g : Goal} {gs : List Goal} {E : Eqs} {k : ℕ} {c : Clause} {cs : List Clause} {ts : Trees} →
        OutcomeOf kind (with_head k g c E) Outcome.wrong →
        AreTrees P kind limit f g gs E k cs ts → AreTrees P kind limit f g gs E k (c ∷ cs) (and wrong ts)
    by_false : {f : Bool} {g : Goal} {gs : List Goal} {E : Eqs} {k : ℕ} {c : Clause} {cs : List Clause} {t : Tree} {ts : Trees} →
        OutcomeOf kind (with_head k g c E) Outcome.false → IsTree P kind limit Bool.false gs E (suc k) t →
        AreTrees P kind limit f g gs E k cs ts → AreTrees P kind limit f g gs E k (c ∷ cs) (and t ts)
    by_solved : {f : Bool} {g : Goal} {gs : List Goal} {E : Eqs} {k : ℕ} {c : Clause} {cs : List Clause} {t : Tree} {ts : Trees} →
        OutcomeOf kind (with_head k g c E) Outcome.solved → IsTree P kind limit f (new_body k c ++ gs) (with_head k g c E) (suc k) t →
        AreTrees P kind limit f g gs E k cs ts → AreTrees P kind limit f g gs E k (c ∷ cs) (and t ts)

-- a branch along the clause numbers p ends as a success
abbrev mutual
  pub Succeeds : Tree → List ℕ → Type 0
  Succeeds success [] = Unit {0}
  Succeeds success (i ∷ p) = ⊥
  Succeeds failed p = ⊥
  Succeeds wrong p = ⊥
  Succeeds cut p = ⊥
  Succeeds (dropped t) p = Succeeds t p
  Succeeds (branch ts) [] = ⊥
  Succeeds (branch ts) (i ∷ p) = SucceedsAt ts i p

  pub SucceedsAt : Trees → ℕ → List ℕ → Type 0
  SucceedsAt no_more i p = ⊥
  SucceedsAt (and t ts) zero p = Succeeds t p
  SucceedsAt (and t ts) (suc i) p = SucceedsAt ts i p

-- the steps of the whole tree
abbrev mutual
  pub steps : Tree → ℕ
  steps success = 0
  steps failed = 0
  steps wrong = 0
  steps cut = 0
  steps (dropped t) = 1 + steps t
  steps (branch ts) = steps_all ts

  pub steps_all : Trees → ℕ
  steps_all no_more = 0
  steps_all (and t ts) = (1 + steps t) + steps_all ts
