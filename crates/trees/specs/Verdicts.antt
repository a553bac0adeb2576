-- What a tree's leaves say: the verdict, the path told, the step arity
use Rattle.std.specs.Prelude.{◌≡◌, ℕ, ◌<◌, ◌⊎◌, List, [], ◌∷◌, length}
use Rattle.trees.specs.Tree.{Tree, Trees, success, failed, wrong, cut, dropped, branch, no_more, and, Succeeds}

-- some leaf is cut
abbrev mutual
  pub SomeCut : Tree → Type 0
  SomeCut success = ⊥
  SomeCut failed = ⊥
  SomeCut wrong = ⊥
  SomeCut cut = Unit {0}
  SomeCut (dropped t) = SomeCut t
  SomeCut (branch ts) = SomeCutIn ts

  pub SomeCutIn : Trees → Type 0
  SomeCutIn no_more = ⊥
  SomeCutIn (and t ts) = SomeCut t ⊎ SomeCutIn ts

-- every leaf is wrong
abbrev mutual
  pub AllWrong : Tree → Type 0
  AllWrong success = ⊥
  AllWrong failed = ⊥
  AllWrong wrong = Unit {0}
  AllWrong cut = ⊥
  AllWrong (dropped t) = AllWrong t
  AllWrong (branch ts) = AllWrongIn ts

  pub AllWrongIn : Trees → Type 0
  AllWrongIn no_more = Unit {0}
  AllWrongIn (and t ts) = AllWrong t × AllWrongIn ts

abbrev pub SomeSuccess : Tree → Type 0
SomeSuccess t = (p : List ℕ) × Succeeds t p

pub data Verdict : Type 0 where
  holds unsettled erroneous fails : Verdict

abbrev pub VerdictOf : Tree → Verdict → Type 0
VerdictOf t holds = SomeSuccess t
VerdictOf t unsettled = (¬ SomeSuccess t) × SomeCut t
VerdictOf t erroneous = (¬ SomeSuccess t) × (¬ SomeCut t) × AllWrong t
VerdictOf t fails = (¬ SomeSuccess t) × (¬ SomeCut t) × (¬ AllWrong t)

-- p is q, or comes before q in list order, compared number by number
abbrev pub NotAfter : List ℕ → List ℕ → Type 0
NotAfter [] q = Unit {0}
NotAfter (i ∷ p) [] = ⊥
NotAfter (i ∷ p) (j ∷ q) = (i < j) ⊎ ((i ≡ j) × NotAfter p q)

-- fewer uses; or as many, and not after
abbrev pub NoWorse : List ℕ → List ℕ → Type 0
NoWorse p q = (length p < length q) ⊎ ((length p ≡ length q) × NotAfter p q)

-- p is the path told
abbrev pub Told : Tree → List ℕ → Type 0
Told t p = Succeeds t p × ((q : List ℕ) → Succeeds t q → NoWorse p q)
