-- Success leaves are proofs: the two directions, each one induction over the tree
use Rattle.std.proofs.Common.{◌≡◌, ℕ, zero, suc, ◌+◌, ◌<◌, ◌≤◌, Bool, true, List, [], ◌∷◌, ◌++◌, length, sym, refl, ap, ◌∙◌, subst, ap₂, arith}
use mathlib.Core.Path.{fun_ext}
use mathlib.Core.Option.{some}
use lib.ListN.{get_elem?}
use Rattle.trees.specs.Terms.{fun, Subst, apply, applies, Eqs, EqsBelow, Unifies, Solvable, Signature}
use Rattle.trees.specs.Tree.{Goal, Clause, Program, listed, instance_of, instances, GoalBelow, GoalsBelow, ClausesSmall, Small, raised, fresh, new_head, new_body, with_head, Tree, Trees, IsTree, is_success, is_failed, is_cut, is_dropped, is_branch, AreTrees, by_none, by_wrong, by_false, by_solved, Succeeds, SucceedsAt}
use Rattle.trees.specs.Proofs.{Proof, done, path}
use Rattle.trees.proofs.Substs
use Rattle.trees.proofs.Substs.{extended, extended_below, extended_above, goal_path}
use Rattle.trees.proofs.Splits.{Has, opened, closed, joined, parted}
use Rattle.trees.proofs.Outcomes.{fitting}

-- A unifier and a proof under it, of a node with a true flag
pub record Met (P : Program) (limit : ℕ) (f : Bool) (gs : List Goal) (E : Eqs) (k : ℕ) (p : List ℕ) : Type 0 where
  pub flag : f ≡ true
  pub terms : Subst
  pub unifies : Unifies terms E
  pub proof : Has P (instances terms gs) p
  pub within : length p + k ≤ limit

-- one step back: from the node after a solved step to the node before it
pub met_before : {P : Program} {limit : ℕ} {f : Bool} {g : Goal} {gs : List Goal} {E : Eqs} {k : ℕ} (i : ℕ) (c : Clause) {p : List ℕ} →
    get_elem? (listed P g) i ≡ some c → Met P limit f (new_body k c ++ gs) (with_head k g c E) (suc k) p → Met P limit f (g ∷ gs) E k (i ∷ p)
met_before {P} {limit} {f} {g} {gs} {E} {k} i c {p} a m =
    let θ = m.terms in
    let σ : Subst = λ x. apply θ (raised (fresh k) x) in
    let w = parted (instances θ (new_body k c)) (instances θ gs) p (subst (λ x. Has P x p) (Substs.instances_append (new_body k c) gs θ) m.proof) in
    let b : Has P (instances σ c.body) w.front = subst (λ x. Has P x w.front) (Substs.instances_instances c.body θ (raised (fresh k))) w.left in
    let ua : applies θ g.arguments ≡ applies θ (applies (raised (fresh k)) c.head.arguments) = cc m.unifies.0 in
    let us : g.symbol ≡ c.head.symbol = cc m.unifies.0 in
    let h : instance_of σ c.head ≡ instance_of θ g = goal_path _ _ (sym us) (sym (ua ∙ Substs.applies_applies c.head.arguments θ (raised (fresh k)))) in
    let v = m.within in
    record {
      flag = m.flag;
      terms = θ;
      unifies = m.unifies.1;
      proof = closed (record { number = i; clause = c; terms = σ; front = w.front; rest = w.rest; there = rw (Substs.listed_instance P g θ) a; heads = h; below = b; beside = w.right; whole = ap {B = List ℕ} (λ x. i ∷ x) w.whole });
      within = omega arith;
    }

pub not_true : {A : Type 0} → Bool.false ≡ true → A
not_true e = let z : ◌≡◌ {A = ℕ} 0 1 = cc in absurd (omega arith)

mutual
  pub sound : {P : Program} {kind : Signature} {limit : ℕ} {f : Bool} {gs : List Goal} {E : Eqs} {k : ℕ} {t : Tree} →
      IsTree P kind limit f gs E k t → (p : List ℕ) → k ≤ limit → Solvable E → Succeeds t p → Met P limit f gs E k p
  sound (is_success) [] l s h = record { flag = refl; terms = s.0; unifies = s.1; proof = (done, refl); within = omega arith }
  sound (is_success) (i ∷ p) l s h = absurd h
  sound (is_failed) p l s h = absurd h
  sound (is_cut x) p l s h = absurd h
  sound (is_dropped x e t) p l s h = not_true (sound t p x s h).flag
  sound (is_branch x ts) [] l s h = absurd h
  sound (is_branch x ts) (i ∷ p) l s h = sound_at ts i p i x s (λ c e. e) h

  pub sound_at : {P : Program} {kind : Signature} {limit : ℕ} {f : Bool} {g : Goal} {gs : List Goal} {E : Eqs} {k : ℕ} {cs : List Clause} {ts : Trees} →
      AreTrees P kind limit f g gs E k cs ts → (i : ℕ) (p : List ℕ) (j : ℕ) → k < limit → Solvable E →
      ((c : Clause) → get_elem? cs i ≡ some c → get_elem? (listed P g) j ≡ some c) → SucceedsAt ts i p → Met P limit f (g ∷ gs) E k (j ∷ p)
  sound_at (by_none) i p j l s n h = absurd h
  sound_at (by_wrong o ts) zero p j l s n h = absurd h
  sound_at (by_wrong o ts) (suc i) p j l s n h = sound_at ts i p j l s n h
  sound_at (by_false o t ts) zero p j l s n h = not_true (sound t p l s h).flag
  sound_at (by_false o t ts) (suc i) p j l s n h = sound_at ts i p j l s n h
  sound_at (by_solved {c = c} o t ts) zero p j l s n h = met_before j c (n c refl) (sound t p l o h)
  sound_at (by_solved o t ts) (suc i) p j l s n h = sound_at ts i p j l s n h

-- The way forward. A node with a unifier and a proof under it
pub record Held (P : Program) (gs : List Goal) (E : Eqs) (k : ℕ) (p : List ℕ) : Type 0 where
  pub terms : Subst
  pub unifies : Unifies terms E
  pub low_eqs : EqsBelow (fresh k) E
  pub low_goals : GoalsBelow (fresh k) gs
  pub proof : Has P (instances terms gs) p

pub record After (P : Program) (g : Goal) (gs : List Goal) (E : Eqs) (k : ℕ) (p : List ℕ) : Type 0 where
  pub number : ℕ
  pub clause : Clause
  pub rest : List ℕ
  pub there : get_elem? (listed P g) number ≡ some clause
  pub held : Held P (new_body k clause ++ gs) (with_head k g clause E) (suc k) rest
  pub whole : number ∷ rest ≡ p

small_at : (cs : List Clause) (i : ℕ) (c : Clause) → ClausesSmall cs → get_elem? cs i ≡ some c → GoalBelow 32 c.head × GoalsBelow 32 c.body
small_at [] i c s e = let z : ◌≡◌ {A = ℕ} 0 1 = cc in absurd (omega arith)
small_at (d ∷ cs) zero c s e = let q : d ≡ c = cc in subst (λ x. GoalBelow 32 x.head × GoalsBelow 32 x.body) q s.0
small_at (d ∷ cs) (suc i) c s e = small_at cs i c s.1 e

-- the assignment is extended to the clause's new variables by the terms that the proof has for them
pub after : {P : Program} {g : Goal} {gs : List Goal} {E : Eqs} {k : ℕ} {p : List ℕ} → Small P → Held P (g ∷ gs) E k p → After P g gs E k p
after {P} {g} {gs} {E} {k} {p} small n =
    let o = opened n.proof in
    let c = o.clause in
    let θ = n.terms in
    let σ = o.terms in
    let b = fresh k in
    let ρ = extended θ b σ in
    let there : get_elem? (listed P g) o.number ≡ some c = rw (Substs.listed_instance P g θ) at o.there in
    let low : GoalBelow 32 c.head × GoalsBelow 32 c.body = small_at (listed P g) o.number c (small g.symbol _) there in
    let agree : (x : ℕ) → x < b → θ x ≡ ρ x = extended_below θ b σ in
    let above : (λ x. apply ρ (raised b x)) ≡ σ = fun_ext (extended_above θ b σ) in
    let up : fresh k ≤ fresh (suc k) = omega arith in
    let room : fresh k + 32 ≤ fresh (suc k) = omega arith in
    let old : applies ρ g.arguments ≡ applies θ g.arguments = sym (Substs.applies_agree g.arguments b θ ρ agree n.low_goals.0) in
    let new : applies ρ (new_head k c).arguments ≡ applies σ c.head.arguments = Substs.applies_applies c.head.arguments ρ (raised b) ∙ ap (λ (τ : Subst). applies τ c.head.arguments) above in
    let bodies : instances σ c.body ≡ instances ρ (new_body k c) = sym (Substs.instances_instances c.body ρ (raised b) ∙ ap (λ (τ : Subst). instances τ c.body) above) in
    let others : instances θ gs ≡ instances ρ gs = Substs.instances_agree gs b θ ρ agree n.low_goals.1 in
    let heads-s : c.head.symbol ≡ g.symbol = ap (λ (x : Goal). x.symbol) o.heads in
    let heads-a : applies σ c.head.arguments ≡ applies θ g.arguments = ap (λ (x : Goal). x.arguments) o.heads in
    record {
      number = o.number;
      clause = c;
      rest = o.front ++ o.rest;
      there = there;
      held = record {
        terms = ρ;
        unifies = (ap₂ fun (sym heads-s) (old ∙ sym (new ∙ heads-a)), Substs.unifies_agree E b θ ρ agree n.low_eqs n.unifies);
        low_eqs = ((Substs.belows_up g.arguments b _ up n.low_goals.0, Substs.belows_raised c.head.arguments 32 _ b room low.0), Substs.eqs_up E b _ up n.low_eqs);
        low_goals = Substs.goals_append (new_body k c) gs _ (Substs.goals_raised c.body 32 _ b room low.1) (Substs.goals_up gs b _ up n.low_goals.1);
        proof = subst (λ x. Has P x (o.front ++ o.rest)) (sym (Substs.instances_append (new_body k c) gs ρ))
            (joined (instances ρ (new_body k c)) (instances ρ gs) o.front o.rest (subst (λ x. Has P x o.front) bodies o.below) (subst (λ x. Has P x o.rest) others o.beside));
      };
      whole = o.whole;
    }

pub none_left : {P : Program} {p : List ℕ} → Has P [] p → [] ≡ p
none_left h = go h.0 h.1
  where
    go : {P : Program} {p : List ℕ} (π : Proof P []) → path π ≡ p → [] ≡ p
    go done e = e

mutual
  pub complete : {P : Program} {kind : Signature} {limit : ℕ} {f : Bool} {gs : List Goal} {E : Eqs} {k : ℕ} {t : Tree} →
      IsTree P kind limit f gs E k t → (p : List ℕ) → f ≡ true → Small P → Held P gs E k p → length p + k ≤ limit → Succeeds t p
  complete (is_success) p f s h l = subst (λ x. Succeeds Tree.success x) (none_left h.proof) tt
  complete (is_failed) p f s h l = not_true f
  complete (is_cut x) p f s h l = let w = ap length (opened h.proof).whole in absurd (omega arith)
  complete (is_dropped x e t) p f s h l =
      let a = after s h in
      let q : get_elem? {A = Clause} [] a.number ≡ some a.clause = rw e at a.there in
      let z : ◌≡◌ {A = ℕ} 0 1 = cc in absurd (omega arith)
  complete (is_branch {t = t} {ts = ts} x rs) p f s h l =
      let a = after s h in
      let w = ap length a.whole in
      subst (Succeeds (Tree.branch (Trees.and t ts))) a.whole (complete_at rs a.number a.clause a.rest f s a.there a.held (omega arith))

  pub complete_at : {P : Program} {kind : Signature} {limit : ℕ} {f : Bool} {g : Goal} {gs : List Goal} {E : Eqs} {k : ℕ} {cs : List Clause} {ts : Trees} →
      AreTrees P kind limit f g gs E k cs ts → (i : ℕ) (c : Clause) (p : List ℕ) → f ≡ true → Small P → get_elem? cs i ≡ some c →
      Held P (new_body k c ++ gs) (with_head k g c E) (suc k) p → length p + suc k ≤ limit → SucceedsAt ts i p
  complete_at (by_none) i c p f s e h l = let z : ◌≡◌ {A = ℕ} 0 1 = cc in absurd (omega arith)
  complete_at {kind = kind} {g = g} {E = E} {k = k} (by_wrong {c = d} o ts) zero c p f s e h l =
      let q : c ≡ d = cc in
      let u : Unifies h.terms (with_head k g d E) = subst (λ x. Unifies h.terms (with_head k g x E)) q h.unifies in
      absurd (o (fitting (with_head k g d E) kind (h.terms, u)))
  complete_at (by_wrong o ts) (suc i) c p f s e h l = complete_at ts i c p f s e h l
  complete_at {g = g} {E = E} {k = k} (by_false {c = d} o t ts) zero c p f s e h l =
      let q : c ≡ d = cc in
      let u : Unifies h.terms (with_head k g d E) = subst (λ x. Unifies h.terms (with_head k g x E)) q h.unifies in
      absurd (o.1 (h.terms, u))
  complete_at (by_false o t ts) (suc i) c p f s e h l = complete_at ts i c p f s e h l
  complete_at {P} {g = g} {gs = gs} {E = E} {k = k} (by_solved {c = d} o t ts) zero c p f s e h l =
      let q : c ≡ d = cc in
      complete t p f s (subst (λ x. Held P (new_body k x ++ gs) (with_head k g x E) (suc k) p) q h) l
  complete_at (by_solved o t ts) (suc i) c p f s e h l = complete_at ts i c p f s e h l
