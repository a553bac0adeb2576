use Rattle.std.proofs.Common.{◌≡◌, ℕ, zero, suc, ◌+◌, ◌<◌, ◌≤◌, Bool, true, false, cond, ◌&&◌, ◌||◌, ltb, ◌⊎◌, ◌↔◌, List, [], ◌∷◌, ◌++◌, length, sym, refl, ◌∙◌, subst, inl, inr, ⊎_elim, append_assoc, append-nil, arith, ltb-false, ltb-true}
use mathlib.Core.Option.{Option, some, none}
use native.Mathlib.Decide.{dec_lt}
use Rattle.std.proofs.lemmas.Bool.Decides.{nat_tests}
use Rattle.trees.specs.Tree.{Tree, Trees, success, failed, wrong, cut, dropped, branch, no_more, and, Succeeds, SucceedsAt, steps, steps_all}
use Rattle.trees.specs.Verdicts.{VerdictOf, SomeCut, SomeCutIn, AllWrong, AllWrongIn, NotAfter, NoWorse}
use Rattle.trees.specs.Summaries.{Summary, better, ◌⊕◌, nothing, summary, summaries, Best, chosen, Summed, SummaryLaw}

-- the two ways of a choice
data Way (p q : List ℕ) : Option (List ℕ) → Type 0 where
  later : length q < length p → Way p q (some q)
  earlier : length p ≤ length q → Way p q (some p)

way : (p q : List ℕ) → Way p q (better (some p) (some q))
way p q = go (ltb (length q) (length p)) refl
  where
    go : (b : Bool) → ltb (length q) (length p) ≡ b → Way p q (cond b (some q) (some p))
    go true e = later (ltb-true (length q) (length p) e)
    go false e = earlier (ltb-false (length q) (length p) e)

better_assoc : (a b c : Option (List ℕ)) → better (better a b) c ≡ better a (better b c)
better_assoc none b c = refl
better_assoc (some p) none c = refl
better_assoc (some p) (some q) none = go (ltb (length q) (length p))
  where
    go : (b : Bool) → better (cond b (some q) (some p)) none ≡ cond b (some q) (some p)
    go true = refl
    go false = refl
better_assoc (some p) (some q) (some r) = grind (arith, nat_tests)

better_none : (a : Option (List ℕ)) → better a none ≡ a
better_none none = refl
better_none (some p) = refl

not_true : {A : Type 0} → false ≡ true → A
not_true e = let z : ◌≡◌ {A = ℕ} 0 1 = cc in absurd (omega arith)

or_assoc : (a b c : Bool) → (a || b) || c ≡ a || (b || c)
or_assoc true b c = refl
or_assoc false b c = refl

and_assoc : (a b c : Bool) → (a && b) && c ≡ a && (b && c)
and_assoc true b c = refl
and_assoc false b c = refl

or_false : (a : Bool) → a || false ≡ a
or_false true = refl
or_false false = refl

and_true : (a : Bool) → a && true ≡ a
and_true true = refl
and_true false = refl

summary_path : (a b : Summary) → a.edges ≡ b.edges → a.best ≡ b.best → a.any_cut ≡ b.any_cut → a.all_wrong ≡ b.all_wrong → a ≡ b
summary_path a b p q r s = λ i. record { edges = p i; best = q i; any_cut = r i; all_wrong = s i }

pub ⊕_assoc : (a b c : Summary) → (a ⊕ b) ⊕ c ≡ a ⊕ (b ⊕ c)
⊕_assoc a b c = summary_path _ _ (omega arith) (better_assoc a.best b.best c.best) (or_assoc a.any_cut b.any_cut c.any_cut) (and_assoc a.all_wrong b.all_wrong c.all_wrong)

pub nothing_⊕ : (a : Summary) → nothing ⊕ a ≡ a
nothing_⊕ a = summary_path _ _ (omega arith) refl refl refl

pub ⊕_nothing : (a : Summary) → a ⊕ nothing ≡ a
⊕_nothing a = summary_path _ _ (omega arith) (better_none a.best) (or_false a.any_cut) (and_true a.all_wrong)

-- edges
mutual
  edges_tree : (t : Tree) (r : List ℕ) → (summary r t).edges ≡ steps t
  edges_tree success r = refl
  edges_tree failed r = refl
  edges_tree wrong r = refl
  edges_tree cut r = refl
  edges_tree (dropped t) r = let a = edges_tree t r in omega arith
  edges_tree (branch ts) r = edges_trees ts r 0

  edges_trees : (ts : Trees) (r : List ℕ) (i : ℕ) → (summaries r i ts).edges ≡ steps_all ts
  edges_trees no_more r i = refl
  edges_trees (and t ts) r i = let a = edges_tree t (r ++ (i ∷ [])) in let b = edges_trees ts r (suc i) in omega arith

-- cut leaves, and leaves all wrong
either : (a b : Bool) (A B : Type 0) → ((a ≡ true) ↔ A) → ((b ≡ true) ↔ B) → (a || b ≡ true) ↔ (A ⊎ B)
either true b A B h k = (λ e. inl (h.0 refl), λ e. refl)
either false b A B h k = (λ e. inr (k.0 e), elim [ inl x ↦ absurd (not_true (h.1 x)) | inr y ↦ k.1 y ])

both : (a b : Bool) (A B : Type 0) → ((a ≡ true) ↔ A) → ((b ≡ true) ↔ B) → (a && b ≡ true) ↔ (A × B)
both true b A B h k = (λ e. (h.0 refl, k.0 e), λ e. k.1 e.1)
both false b A B h k = (λ e. absurd (not_true e), λ e. h.1 e.0)

mutual
  cut_tree : (t : Tree) (r : List ℕ) → ((summary r t).any_cut ≡ true) ↔ SomeCut t
  cut_tree success r = (λ e. not_true e, λ x. absurd x)
  cut_tree failed r = (λ e. not_true e, λ x. absurd x)
  cut_tree wrong r = (λ e. not_true e, λ x. absurd x)
  cut_tree cut r = (λ e. tt, λ x. refl)
  cut_tree (dropped t) r = cut_tree t r
  cut_tree (branch ts) r = cut_trees ts r 0

  cut_trees : (ts : Trees) (r : List ℕ) (i : ℕ) → ((summaries r i ts).any_cut ≡ true) ↔ SomeCutIn ts
  cut_trees no_more r i = (λ e. not_true e, λ x. absurd x)
  cut_trees (and t ts) r i = either (summary (r ++ (i ∷ [])) t).any_cut (summaries r (suc i) ts).any_cut (SomeCut t) (SomeCutIn ts) (cut_tree t (r ++ (i ∷ []))) (cut_trees ts r (suc i))

mutual
  wrong_tree : (t : Tree) (r : List ℕ) → ((summary r t).all_wrong ≡ true) ↔ AllWrong t
  wrong_tree success r = (λ e. not_true e, λ x. absurd x)
  wrong_tree failed r = (λ e. not_true e, λ x. absurd x)
  wrong_tree wrong r = (λ e. tt, λ x. refl)
  wrong_tree cut r = (λ e. not_true e, λ x. absurd x)
  wrong_tree (dropped t) r = wrong_tree t r
  wrong_tree (branch ts) r = wrong_trees ts r 0

  wrong_trees : (ts : Trees) (r : List ℕ) (i : ℕ) → ((summaries r i ts).all_wrong ≡ true) ↔ AllWrongIn ts
  wrong_trees no_more r i = (λ e. tt, λ x. refl)
  wrong_trees (and t ts) r i = both (summary (r ++ (i ∷ [])) t).all_wrong (summaries r (suc i) ts).all_wrong (AllWrong t) (AllWrongIn ts) (wrong_tree t (r ++ (i ∷ []))) (wrong_trees ts r (suc i))

-- the best path: of one set of paths and a later one
longer : (p q : List ℕ) → NoWorse p q → length p ≤ length q
longer p q (inl h) = omega arith
longer p q (inr h) = let e = h.0 in omega arith

module _ {A B C : List ℕ → Type 0} (from : (p : List ℕ) → C p → A p ⊎ B p) (left : (p : List ℕ) → A p → C p) (right : (p : List ℕ) → B p → C p)
    (order : (p q : List ℕ) → A p → B q → NotAfter p q) where
  best_both : (a b : Option (List ℕ)) → Best A a → Best B b → Best C (better a b)
  best_both none none x y = λ p c. ⊎_elim (x p) (y p) (from p c)
  best_both none (some q) x y = (right q y.0, λ r c. ⊎_elim (λ u. absurd (x r u)) (y.1 r) (from r c))
  best_both (some p) none x y = (left p x.0, λ r c. ⊎_elim (x.1 r) (λ u. absurd (y r u)) (from r c))
  best_both (some p) (some q) x y = go (better (some p) (some q)) (way p q)
    where
      go : (o : Option (List ℕ)) → Way p q o → Best C o
      go _ (later h) = (right q y.0, λ r c. ⊎_elim (λ u. let l = longer p r (x.1 r u) in inl (omega arith)) (y.1 r) (from r c))
      go _ (earlier h) = (left p x.0, λ r c. ⊎_elim (x.1 r) (λ u. late r (dec_lt (length p) (length r)) u (longer q r (y.1 r u))) (from r c))
        where
          late : (r : List ℕ) → Dec (length p < length r) → B r → length q ≤ length r → NoWorse p r
          late r (yes l) u k = inl l
          late r (no l) u k = inr (omega arith, order p r x.0 u)

best_iff : {A B : List ℕ → Type 0} → ((p : List ℕ) → A p ↔ B p) → (o : Option (List ℕ)) → Best A o → Best B o
best_iff f none x = λ p b. x p ((f p).1 b)
best_iff f (some p) x = ((f p).0 x.0, λ q b. x.1 q ((f q).1 b))

-- the paths through a tree reached along r, and through children from number i on
abbrev Reach : List ℕ → Tree → List ℕ → Type 0
Reach r t p = (q : List ℕ) × (p ≡ r ++ q) × Succeeds t q

abbrev ReachAt : List ℕ → ℕ → Trees → List ℕ → Type 0
ReachAt r i ts p = (j : ℕ) × (q : List ℕ) × (p ≡ r ++ ((i + j) ∷ q)) × SucceedsAt ts j q

before : (r : List ℕ) (i j : ℕ) (x y : List ℕ) → i < j → NotAfter (r ++ (i ∷ x)) (r ++ (j ∷ y))
before [] i j x y h = inl h
before (k ∷ r) i j x y h = inr (refl, before r i j x y h)

not_after_self : (r : List ℕ) → NotAfter r r
not_after_self [] = tt
not_after_self (i ∷ r) = inr (refl, not_after_self r)

only : (r p q : List ℕ) → p ≡ r ++ q → Succeeds success q → NoWorse r p
only r p [] e s = subst (NoWorse r) (sym (e ∙ append-nil r)) (inr (refl, not_after_self r))
only r p (i ∷ q) e s = absurd s

same_number : (r q p : List ℕ) (i j : ℕ) → i ≡ j → p ≡ r ++ (i ∷ q) → p ≡ r ++ (j ∷ q)
same_number r q p i j d e = subst (λ (k : ℕ). p ≡ r ++ (k ∷ q)) d e

through : (ts : Trees) (r p : List ℕ) → ReachAt r 0 ts p ↔ Reach r (branch ts) p
through ts r p = (λ w. (w.0 ∷ w.1, same_number r w.1 p (0 + w.0) w.0 (omega arith) w.2, w.3), λ w. back w.0 w.1 w.2)
  where
    back : (q : List ℕ) → p ≡ r ++ q → Succeeds (branch ts) q → ReachAt r 0 ts p
    back [] e s = absurd s
    back (j ∷ q) e s = (j, q, same_number r q p j (0 + j) (omega arith) e, s)

parts : (t : Tree) (ts : Trees) (r : List ℕ) (i : ℕ) (p : List ℕ) → ReachAt r i (and t ts) p → Reach (r ++ (i ∷ [])) t p ⊎ ReachAt r (suc i) ts p
parts t ts r i p w = go w.0 w.1 w.2 w.3
  where
    go : (j : ℕ) (q : List ℕ) → p ≡ r ++ ((i + j) ∷ q) → SucceedsAt (and t ts) j q → Reach (r ++ (i ∷ [])) t p ⊎ ReachAt r (suc i) ts p
    go zero q e s = inl (q, same_number r q p (i + 0) i (omega arith) e ∙ sym (append_assoc r (i ∷ []) q), s)
    go (suc j) q e s = inr (j, q, same_number r q p (i + suc j) (suc i + j) (omega arith) e, s)

ordered : (t : Tree) (ts : Trees) (r : List ℕ) (i : ℕ) (p q : List ℕ) → Reach (r ++ (i ∷ [])) t p → ReachAt r (suc i) ts q → NotAfter p q
ordered t ts r i p q a b =
    subst (λ x. NotAfter x q) (sym (a.1 ∙ append_assoc r (i ∷ []) a.0)) (subst (NotAfter (r ++ (i ∷ a.0))) (sym b.2) (before r i (suc i + b.0) a.0 b.1 (omega arith)))

mutual
  best_tree : (t : Tree) (r : List ℕ) → Best (Reach r t) (summary r t).best
  best_tree success r = (([], sym (append-nil r), tt), λ p w. only r p w.0 w.1 w.2)
  best_tree failed r = λ p w. w.2
  best_tree wrong r = λ p w. w.2
  best_tree cut r = λ p w. w.2
  best_tree (dropped t) r = best_tree t r
  best_tree (branch ts) r = best_iff (through ts r) (summaries r 0 ts).best (best_trees ts r 0)

  best_trees : (ts : Trees) (r : List ℕ) (i : ℕ) → Best (ReachAt r i ts) (summaries r i ts).best
  best_trees no_more r i = λ p w. w.3
  best_trees (and t ts) r i = best_both (parts t ts r i)
      (λ p w. (0, w.0, same_number r w.0 p i (i + 0) (omega arith) (w.1 ∙ append_assoc r (i ∷ []) w.0), w.2))
      (λ p w. (suc w.0, w.1, same_number r w.1 p (suc i + w.0) (i + suc w.0) (omega arith) w.2, w.3))
      (ordered t ts r i)
      (summary (r ++ (i ∷ [])) t).best (summaries r (suc i) ts).best (best_tree t (r ++ (i ∷ []))) (best_trees ts r (suc i))

pub best_right : (t : Tree) → Best (Succeeds t) (summary [] t).best
best_right t = best_iff (λ p. (λ w. subst (Succeeds t) (sym w.1) w.2, λ w. (p, refl, w))) (summary [] t).best (best_tree t [])

verdict_right : (t : Tree) (o : Option (List ℕ)) (c w : Bool) → Best (Succeeds t) o → ((c ≡ true) ↔ SomeCut t) → ((w ≡ true) ↔ AllWrong t) → VerdictOf t (chosen o c w)
verdict_right t (some p) c w b x y = (p, b.0)
verdict_right t none true w b x y = (λ s. b s.0 s.1, x.0 refl)
verdict_right t none false true b x y = (λ s. b s.0 s.1, λ s. not_true (x.1 s), y.0 refl)
verdict_right t none false false b x y = (λ s. b s.0 s.1, λ s. not_true (x.1 s), λ s. not_true (y.1 s))

pub summed : (t : Tree) → Summed t (summary [] t)
summed t = record {
  edges = edges_tree t [];
  best = best_right t;
  any_cut = cut_tree t [];
  all_wrong = wrong_tree t [];
  verdict = verdict_right t (summary [] t).best (summary [] t).any_cut (summary [] t).all_wrong (best_right t) (cut_tree t []) (wrong_tree t []);
}

pub summary_law : SummaryLaw
summary_law = (⊕_assoc, nothing_⊕, ⊕_nothing, summed)
