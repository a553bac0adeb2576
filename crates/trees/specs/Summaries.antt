-- The summary of a tree, as a search gathers it: steps, best path, whether a leaf was cut, whether all were wrong
use Rattle.std.specs.Prelude.{◌≡◌, ℕ, suc, ◌+◌, Bool, true, false, cond, ◌&&◌, ◌||◌, ◌↔◌, List, [], ◌∷◌, ◌++◌, length, nat_lt}
use Rattle.std.proofs.Math.Option.{Option, some, none}
use Rattle.trees.specs.Tree.{Tree, Trees, success, failed, wrong, cut, dropped, branch, no_more, and, Succeeds, steps}
use Rattle.trees.specs.Verdicts.{Verdict, holds, unsettled, erroneous, fails, VerdictOf, SomeCut, AllWrong, NoWorse}

pub record Summary : Type 0 where
  pub edges : ℕ
  pub best : Option (List ℕ)
  pub any_cut : Bool
  pub all_wrong : Bool

-- of an earlier and a later path the one with fewer uses, else the earlier
abbrev pub better : Option (List ℕ) → Option (List ℕ) → Option (List ℕ)
better none b = b
better (some p) none = some p
better (some p) (some q) = cond (nat_lt (length q) (length p)) (some q) (some p)

infixr 60 ◌⊕◌
abbrev pub ◌⊕◌ : Summary → Summary → Summary
a ⊕ b = record { edges = a.edges + b.edges; best = better a.best b.best; any_cut = a.any_cut || b.any_cut; all_wrong = a.all_wrong && b.all_wrong }

abbrev pub nothing : Summary
nothing = record { edges = 0; best = none; any_cut = false; all_wrong = true }

-- one step
abbrev pub tick : Summary
tick = record { edges = 1; best = none; any_cut = false; all_wrong = true }

abbrev pub at_success : List ℕ → Summary
at_success r = record { edges = 0; best = some r; any_cut = false; all_wrong = false }

abbrev pub at_failed : Summary
at_failed = record { edges = 0; best = none; any_cut = false; all_wrong = false }

abbrev pub at_cut : Summary
at_cut = record { edges = 0; best = none; any_cut = true; all_wrong = false }

-- the summary of a tree that is reached along r, and of children from number i on
abbrev mutual
  pub summary : List ℕ → Tree → Summary
  summary r success = at_success r
  summary r failed = at_failed
  summary r wrong = nothing
  summary r cut = at_cut
  summary r (dropped t) = tick ⊕ summary r t
  summary r (branch ts) = summaries r 0 ts

  pub summaries : List ℕ → ℕ → Trees → Summary
  summaries r i no_more = nothing
  summaries r i (and t ts) = (tick ⊕ summary (r ++ (i ∷ [])) t) ⊕ summaries r (suc i) ts

-- what is best in a set of paths
abbrev pub Best : (List ℕ → Type 0) → Option (List ℕ) → Type 0
Best S none = (p : List ℕ) → ¬ S p
Best S (some p) = S p × ((q : List ℕ) → S q → NoWorse p q)

abbrev pub chosen : Option (List ℕ) → Bool → Bool → Verdict
chosen (some p) c w = holds
chosen none true w = unsettled
chosen none false true = erroneous
chosen none false false = fails

abbrev pub verdict_of : Summary → Verdict
verdict_of s = chosen s.best s.any_cut s.all_wrong

pub record Summed (t : Tree) (s : Summary) : Type 0 where
  pub edges : s.edges ≡ steps t
  pub best : Best (Succeeds t) s.best
  pub any_cut : (s.any_cut ≡ true) ↔ SomeCut t
  pub all_wrong : (s.all_wrong ≡ true) ↔ AllWrong t
  pub verdict : VerdictOf t (verdict_of s)

abbrev pub SummaryLaw : Type 0
SummaryLaw =
    ((a b c : Summary) → (a ⊕ b) ⊕ c ≡ a ⊕ (b ⊕ c)) ×
    ((a : Summary) → nothing ⊕ a ≡ a) ×
    ((a : Summary) → a ⊕ nothing ≡ a) ×
    ((t : Tree) → Summed t (summary [] t))
