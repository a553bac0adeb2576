use Rattle.std.proofs.Common.{◌≡◌, ℕ, suc, ◌+◌, ◌*◌, ◌<◌, ◌≤◌, Bool, List, [], ◌∷◌, ◌++◌, sym, refl, ap, ◌∙◌, subst, arith}
use Rattle.trees.specs.Terms.{Eqs, Signature, Outcome, OutcomeOf}
use Rattle.trees.specs.Tree.{Goal, Clause, Program, listed, new_body, with_head, Tree, Trees, IsTree, is_success, is_failed, is_cut, is_dropped, is_branch, AreTrees, by_none, by_wrong, by_false, by_solved}
use Rattle.trees.specs.Summaries.{Summary, ◌⊕◌, nothing, tick, at_success, at_failed, at_cut, summary, summaries, Summed}
use Rattle.trees.specs.Search.{Work, node, tries, Runs, ended, on_success, on_failed, on_cut, on_empty, on_goal, no_clause, on_wrong, on_false, on_solved, Weigh, SearchLaw, moves, cost, MovesLaw, RootLaw, CountLaw}
use Rattle.trees.proofs.Summaries.{⊕_assoc, nothing_⊕, ⊕_nothing, summed}
use Rattle.trees.proofs.Outcomes.{fitting}
use Rattle.trees.proofs.Uniques
use Rattle.trees.proofs.Uniques.{one, ones, some_tree, some_trees}

-- sums in other brackets
sums : (a k t x s : Summary) → ((a ⊕ k) ⊕ t) ⊕ (x ⊕ s) ≡ (a ⊕ ((k ⊕ t) ⊕ x)) ⊕ s
sums a k t x s = sym (⊕_assoc ((a ⊕ k) ⊕ t) x s) ∙ ap (λ (y : Summary). y ⊕ s) (ap (λ (y : Summary). y ⊕ x) (⊕_assoc a k t) ∙ ⊕_assoc a (k ⊕ t) x)

-- the search can end: by the trees that its work has
module _ {P : Program} {kind : Signature} {limit : ℕ} where
  along : (a : Summary) (w : List Work) {x y : Summary} → x ≡ y → Runs P kind limit a w x → Runs P kind limit a w y
  along a w e h = subst (Runs P kind limit a w) e h

  mutual
    end_node : {f : Bool} {gs : List Goal} {E : Eqs} {k : ℕ} {t : Tree} → IsTree P kind limit f gs E k t → (r : List ℕ) (a s : Summary) (w : List Work) →
        ((b : Summary) → Runs P kind limit b w (b ⊕ s)) → Runs P kind limit a (node r f gs E k ∷ w) ((a ⊕ summary r t) ⊕ s)
    end_node (is_success) r a s w h = on_success (h (a ⊕ at_success r))
    end_node (is_failed) r a s w h = on_failed (h (a ⊕ at_failed))
    end_node (is_cut x) r a s w h = on_cut x (h (a ⊕ at_cut))
    end_node (is_dropped {t = t} x e u) r a s w h =
        on_empty x e (along _ _ (ap (λ (y : Summary). y ⊕ s) (⊕_assoc a tick (summary r t))) (end_node u r (a ⊕ tick) s w h))
    end_node (is_branch x us) r a s w h = on_goal x (Uniques.no_clause us) (end_tries us r 0 a s w h)

    end_tries : {f : Bool} {g : Goal} {gs : List Goal} {E : Eqs} {k : ℕ} {cs : List Clause} {ts : Trees} → AreTrees P kind limit f g gs E k cs ts →
        (r : List ℕ) (i : ℕ) (a s : Summary) (w : List Work) → ((b : Summary) → Runs P kind limit b w (b ⊕ s)) →
        Runs P kind limit a (tries r i f g gs E k cs ∷ w) ((a ⊕ summaries r i ts) ⊕ s)
    end_tries (by_none) r i a s w h = no_clause (along _ _ (ap (λ (y : Summary). y ⊕ s) (sym (⊕_nothing a))) (h a))
    end_tries (by_wrong {ts = ts} o us) r i a s w h =
        on_wrong o (along _ _ (ap (λ (y : Summary). y ⊕ s) (⊕_assoc a tick (summaries r (suc i) ts))) (end_tries us r (suc i) (a ⊕ tick) s w h))
    end_tries (by_false {t = t} {ts = ts} o u us) r i a s w h =
        let x = summaries r (suc i) ts in
        on_false o (along _ _ (sums a tick (summary (r ++ (i ∷ [])) t) x s)
        (end_node u (r ++ (i ∷ [])) (a ⊕ tick) (x ⊕ s) _ (λ b. along _ _ (⊕_assoc b x s) (end_tries us r (suc i) b s w h))))
    end_tries (by_solved {t = t} {ts = ts} o u us) r i a s w h =
        let x = summaries r (suc i) ts in
        on_solved o (along _ _ (sums a tick (summary (r ++ (i ∷ [])) t) x s)
        (end_node u (r ++ (i ∷ [])) (a ⊕ tick) (x ⊕ s) _ (λ b. along _ _ (⊕_assoc b x s) (end_tries us r (suc i) b s w h))))

pub ends : {P : Program} {kind : Signature} {limit : ℕ} (w : List Work) (a s : Summary) → Weigh P kind limit w s → Runs P kind limit a w (a ⊕ s)
ends [] a s h = subst (Runs _ _ _ a []) (sym (⊕_nothing a) ∙ ap (λ (y : Summary). a ⊕ y) h) ended
ends (node r f gs E k ∷ w) a s h =
    along a _ (⊕_assoc a (summary r h.2.0) h.1 ∙ ap (λ (y : Summary). a ⊕ y) (ap (λ (y : Summary). y ⊕ h.1) h.2.2 ∙ h.4))
    (end_node h.2.1 r a h.1 w (λ b. ends w b h.1 h.3))
ends (tries r i f g gs E k cs ∷ w) a s h =
    along a _ (⊕_assoc a (summaries r i h.2.0) h.1 ∙ ap (λ (y : Summary). a ⊕ y) (ap (λ (y : Summary). y ⊕ h.1) h.2.2 ∙ h.4))
    (end_tries h.2.1 r i a h.1 w (λ b. ends w b h.1 h.3))

-- what the work is worth after each step
pub if_empty : {P : Program} {kind : Signature} {limit : ℕ} {f : Bool} {g : Goal} {gs : List Goal} {E : Eqs} {k : ℕ} {t : Tree} → IsTree P kind limit f (g ∷ gs) E k t → k < limit → listed P g ≡ [] → (u : Tree) × IsTree P kind limit Bool.false gs E (suc k) u × (t ≡ Tree.dropped u)
if_empty (is_cut x) l e = absurd (omega arith)
if_empty (is_dropped {t = u} x d h) l e = (u, h, refl)
if_empty (is_branch x us) l e = absurd (Uniques.no_clause us e)

pub if_goal : {P : Program} {kind : Signature} {limit : ℕ} {f : Bool} {g : Goal} {gs : List Goal} {E : Eqs} {k : ℕ} {t : Tree} → IsTree P kind limit f (g ∷ gs) E k t → k < limit → (listed P g ≡ [] → ⊥) → (us : Trees) × AreTrees P kind limit f g gs E k (listed P g) us × (t ≡ Tree.branch us)
if_goal (is_cut x) l n = absurd (omega arith)
if_goal (is_dropped x d h) l n = absurd (n d)
if_goal (is_branch x us) l n = (_, us, refl)

pub if_wrong : {P : Program} {kind : Signature} {limit : ℕ} {f : Bool} {g : Goal} {gs : List Goal} {E : Eqs} {k : ℕ} {c : Clause} {cs : List Clause} {ts : Trees} → AreTrees P kind limit f g gs E k (c ∷ cs) ts → OutcomeOf kind (with_head k g c E) Outcome.wrong →
    (us : Trees) × AreTrees P kind limit f g gs E k cs us × (ts ≡ Trees.and Tree.wrong us)
if_wrong (by_wrong o us) p = (_, us, refl)
if_wrong (by_false o u us) p = absurd (p o.0)
if_wrong {kind = kind} {g = g} {E = E} {k = k} {c = c} (by_solved o u us) p = absurd (p (fitting (with_head k g c E) kind o))

pub if_false : {P : Program} {kind : Signature} {limit : ℕ} {f : Bool} {g : Goal} {gs : List Goal} {E : Eqs} {k : ℕ} {c : Clause} {cs : List Clause} {ts : Trees} → AreTrees P kind limit f g gs E k (c ∷ cs) ts → OutcomeOf kind (with_head k g c E) Outcome.false →
    (u : Tree) × (us : Trees) × IsTree P kind limit Bool.false gs E (suc k) u × AreTrees P kind limit f g gs E k cs us × (ts ≡ Trees.and u us)
if_false (by_wrong o us) p = absurd (o p.0)
if_false (by_false o u us) p = (_, _, u, us, refl)
if_false (by_solved o u us) p = absurd (p.1 o)

pub if_solved : {P : Program} {kind : Signature} {limit : ℕ} {f : Bool} {g : Goal} {gs : List Goal} {E : Eqs} {k : ℕ} {c : Clause} {cs : List Clause} {ts : Trees} → AreTrees P kind limit f g gs E k (c ∷ cs) ts → OutcomeOf kind (with_head k g c E) Outcome.solved →
    (u : Tree) × (us : Trees) × IsTree P kind limit f (new_body k c ++ gs) (with_head k g c E) (suc k) u × AreTrees P kind limit f g gs E k cs us × (ts ≡ Trees.and u us)
if_solved {kind = kind} {g = g} {E = E} {k = k} {c = c} (by_wrong o us) p = absurd (o (fitting (with_head k g c E) kind p))
if_solved (by_false o u us) p = absurd (o.1 p)
if_solved (by_solved o u us) p = (_, _, u, us, refl)

last : (z a y b x s : Summary) → z ≡ (a ⊕ y) ⊕ b → y ≡ x → x ⊕ b ≡ s → z ≡ a ⊕ s
last z a y b x s p q r = p ∙ (⊕_assoc a y b ∙ ap (λ (v : Summary). a ⊕ v) (ap (λ (v : Summary). v ⊕ b) q ∙ r))

two : {z : Summary} (a s t x b y : Summary) → (tick ⊕ t) ⊕ x ≡ y → y ⊕ b ≡ s → z ≡ (a ⊕ tick) ⊕ (t ⊕ (x ⊕ b)) → z ≡ a ⊕ s
two a s t x b y p q e = e ∙ (sym (⊕_assoc (a ⊕ tick) t (x ⊕ b)) ∙ (sums a tick t x b ∙ (⊕_assoc a ((tick ⊕ t) ⊕ x) b ∙ ap (λ (v : Summary). a ⊕ v) (ap (λ (v : Summary). v ⊕ b) p ∙ q))))

pub gathers : {P : Program} {kind : Signature} {limit : ℕ} {a z : Summary} {w : List Work} → Runs P kind limit a w z → (s : Summary) → Weigh P kind limit w s → z ≡ a ⊕ s
gathers {a = a} (ended) s h = sym (⊕_nothing a) ∙ ap (λ (y : Summary). a ⊕ y) h
gathers {a = a} {z = z} (on_success {r = r} n) s h =
    last z a (at_success r) h.1 h.0 s (gathers n h.1 h.3) (ap (summary r) (one is_success h.2.1) ∙ h.2.2) h.4
gathers {a = a} {z = z} (on_failed {r = r} n) s h =
    last z a at_failed h.1 h.0 s (gathers n h.1 h.3) (ap (summary r) (one is_failed h.2.1) ∙ h.2.2) h.4
gathers {a = a} {z = z} (on_cut {r = r} l n) s h =
    last z a at_cut h.1 h.0 s (gathers n h.1 h.3) (ap (summary r) (one (is_cut l) h.2.1) ∙ h.2.2) h.4
gathers {a = a} {z = z} (on_empty {r = r} l e n) s h =
    let v = if_empty h.2.1 l e in
    let y = summary r v.0 in
    gathers n (y ⊕ h.1) (y, h.1, (v.0, v.1, refl), h.3, refl) ∙
    (⊕_assoc a tick (y ⊕ h.1) ∙ ap (λ (x : Summary). a ⊕ x) (sym (⊕_assoc tick y h.1) ∙ (ap (λ (x : Summary). x ⊕ h.1) (ap (summary r) (sym v.2) ∙ h.2.2) ∙ h.4)))
gathers (on_goal {r = r} l e n) s h =
    let v = if_goal h.2.1 l e in
    gathers n s (h.0, h.1, (v.0, v.1, ap (summary r) (sym v.2) ∙ h.2.2), h.3, h.4)
gathers {a = a} (no_clause {r = r} {i = i} n) s h =
    gathers n h.1 h.3 ∙ ap (λ (x : Summary). a ⊕ x) (sym (nothing_⊕ h.1) ∙ (ap (λ (x : Summary). x ⊕ h.1) (ap (summaries r i) (ones by_none h.2.1) ∙ h.2.2) ∙ h.4))
gathers {a = a} (on_wrong {r = r} {i = i} o n) s h =
    let v = if_wrong h.2.1 o in
    let x = summaries r (suc i) v.0 in
    gathers n (x ⊕ h.1) (x, h.1, (v.0, v.1, refl), h.3, refl) ∙
    (⊕_assoc a tick (x ⊕ h.1) ∙ ap (λ (y : Summary). a ⊕ y) (sym (⊕_assoc tick x h.1) ∙ (ap (λ (y : Summary). y ⊕ h.1) (ap (summaries r i) (sym v.2) ∙ h.2.2) ∙ h.4)))
gathers {a = a} (on_false {r = r} {i = i} o n) s h =
    let v = if_false h.2.1 o in
    two a s (summary (r ++ (i ∷ [])) v.0) (summaries r (suc i) v.1) h.1 h.0 (ap (summaries r i) (sym v.4) ∙ h.2.2) h.4
    (gathers n _ (_, _, (v.0, v.2, refl), (_, h.1, (v.1, v.3, refl), h.3, refl), refl))
gathers {a = a} (on_solved {r = r} {i = i} o n) s h =
    let v = if_solved h.2.1 o in
    two a s (summary (r ++ (i ∷ [])) v.0) (summaries r (suc i) v.1) h.1 h.0 (ap (summaries r i) (sym v.4) ∙ h.2.2) h.4
    (gathers n _ (_, _, (v.0, v.2, refl), (_, h.1, (v.1, v.3, refl), h.3, refl), refl))

pub search_law : SearchLaw
search_law P kind limit a s z w h = (λ n. gathers n s h, λ e. subst (Runs P kind limit a w) (sym e) (ends w a s h))

few_moves : {P : Program} {kind : Signature} {limit : ℕ} {a z : Summary} {w : List Work} (n : Runs P kind limit a w z) → moves n + 3 * a.edges ≤ 3 * z.edges + cost w
few_moves (ended) = omega arith
few_moves (on_success n) = let h = few_moves n in omega arith
few_moves (on_failed n) = let h = few_moves n in omega arith
few_moves (on_cut l n) = let h = few_moves n in omega arith
few_moves (on_empty l e n) = let h = few_moves n in omega arith
few_moves (on_goal l e n) = let h = few_moves n in omega arith
few_moves (no_clause n) = let h = few_moves n in omega arith
few_moves (on_wrong o n) = let h = few_moves n in omega arith
few_moves (on_false o n) = let h = few_moves n in omega arith
few_moves (on_solved o n) = let h = few_moves n in omega arith

pub moves_law : MovesLaw
moves_law P kind limit a z w n = few_moves n

pub root_law : RootLaw
root_law P kind limit gs E t z h n =
    subst (Summed t) (sym (gathers n (summary [] t) (summary [] t, nothing, (t, h, refl), refl, ⊕_nothing (summary [] t)) ∙ nothing_⊕ (summary [] t))) (summed t)

-- any work has a weight, where outcomes are at hand
pub weighed : (P : Program) (kind : Signature) → ((E : Eqs) → (o : Outcome) × OutcomeOf kind E o) → (limit : ℕ) (w : List Work) → (s : Summary) × Weigh P kind limit w s
weighed P kind judge limit [] = (nothing, refl)
weighed P kind judge limit (node r f gs E k ∷ w) =
    let v = weighed P kind judge limit w in
    let t = some_tree P kind judge limit f gs E k in
    (summary r t.0 ⊕ v.0, (summary r t.0, v.0, (t.0, t.1, refl), v.1, refl))
weighed P kind judge limit (tries r i f g gs E k cs ∷ w) =
    let v = weighed P kind judge limit w in
    let t = some_trees P kind judge limit f g gs E k cs in
    (summaries r i t.0 ⊕ v.0, (summaries r i t.0, v.0, (t.0, t.1, refl), v.1, refl))

pub arity_law : CountLaw
arity_law P kind judge limit gs E t a w h on =
    let v = weighed P kind judge limit w in
    let n = root_law P kind limit gs E t (a ⊕ v.0) h (on (a ⊕ v.0) (ends w a v.0 v.1)) in
    let e = n.edges in
    omega arith
