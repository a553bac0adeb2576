-- The outcome of every order of the rules.
use mathlib.Core.Path.{◌≡◌, refl}
use mathlib.Core.Logic.{◌↔◌, ◌⊎◌, inl, inr}
use mathlib.Core.Bool.{Bool, false≢true}
use mathlib.Core.List.{◌++◌}
use mathlib.Core.WellFounded.{Acc}
use Prim.Native.Nat.{ℕ}
use native.Mathlib.Omega.{arith}
use Rattle.typing.specs.Terms.{Eqs, Subst, apply, KTerm, Signature, kinds, Unifies, Fits}
use Rattle.typing.specs.Rules.{State, state, Step, Run, stop, step, Final, Outcome, solved, false, wrong, Ends, at_clash, at_true, at_false, ComesTo, solution, Means, Reads, EveryOrder}
use Rattle.typing.proofs.Steps.{run_fits, run_unifies, run_unifies_back}
use Rattle.typing.proofs.Clashes.{clash_fits, some_fits}
use Rattle.typing.proofs.Finals.{Applies, Settled, next, final_settled, settled_final}
use Rattle.typing.proofs.Solutions.{solution_unifies, solution_general}
use Rattle.typing.proofs.Readings.{front, back, join}
use Rattle.typing.proofs.Readouts.{some_reading}
use Rattle.typing.proofs.Ending.{always_ends}

one_meaning : (kind : Signature) (E : Eqs) (o p : Outcome) → Means kind E o → Means kind E p → o ≡ p
one_meaning kind E solved solved h k = refl
one_meaning kind E solved false h k = absurd (k.1 h)
one_meaning kind E solved wrong h k = absurd (k (some_fits kind E h))
one_meaning kind E false solved h k = absurd (h.1 k)
one_meaning kind E false false h k = refl
one_meaning kind E false wrong h k = absurd (k h.0)
one_meaning kind E wrong solved h k = absurd (h (some_fits kind E k))
one_meaning kind E wrong false h k = absurd (h k.0)
one_meaning kind E wrong wrong h k = refl

module _ (kind : Signature) where
  final_alike : (s : State) → Final kind s → Unifies (solution s.eqs) s.eqs
  final_alike s f = solution_unifies s.eqs (final_settled kind s f)

  -- what a run has come to, it means
  meaning : (E : Eqs) (o : Outcome) (s : State) → Run kind (state Bool.true E) s → Ends kind s o → Means kind E o
  meaning E o s r (at_clash c) = λ k. clash_fits kind k.0 c ((run_fits kind k.0 r).0 k.1)
  meaning E o s r (at_true {E = F} f) = (solution F, (run_unifies_back kind (solution F) r refl (final_alike (state Bool.true F) f)).1)
  meaning E o s r (at_false {E = F} f) =
      let k = some_fits kind F (solution F, final_alike (state Bool.false F) f) in
      ((k.0, (run_fits kind k.0 r).1 k.1), λ u. false≢true (run_unifies kind u.0 r u.1).0)

  pub comes : (E : Eqs) (o : Outcome) → ComesTo kind E o → Means kind E o
  comes E o c = meaning E o c.last c.run c.ends

  -- from every state some run ends
  ending : (s : State) → Acc (λ s' s. Step kind s s') s → (o : Outcome) × (l : State) × Run kind s l × Ends kind l o
  ending s (Acc.intro x h) = at (next kind x) (λ s' r. ending s' (h s' r))
    where
      at-final : (s : State) → Final kind s → (o : Outcome) × Ends kind s o
      at-final s f = go s.flag s.eqs f
        where
          go : (b : Bool) (E : Eqs) → Final kind (state b E) → (o : Outcome) × Ends kind (state b E) o
          go Bool.true E f = (solved, at_true f)
          go Bool.false E f = (false, at_false f)

      at : Applies kind x ⊎ Settled x.eqs → ((s' : State) → Step kind x s' → (o : Outcome) × (l : State) × Run kind s' l × Ends kind l o)
          → (o : Outcome) × (l : State) × Run kind x l × Ends kind l o
      at (inl (inl r)) ih = let q = ih r.0 r.1 in (q.0, q.1, step r.1 q.2, q.3)
      at (inl (inr c)) ih = (wrong, x, stop, at_clash c)
      at (inr q) ih = let f = at-final x (settled_final kind x q) in (f.0, x, stop, f.1)

  some_order : (E : Eqs) → (o : Outcome) × ComesTo kind E o
  some_order E = let q = ending (state Bool.true E) (always_ends kind (state Bool.true E)) in (q.0, record { last = q.1; run = q.2; ends = q.3 })

  -- what an outcome means, some run comes to
  pub meant : (E : Eqs) (o : Outcome) → Means kind E o → ComesTo kind E o
  meant E o m = let q = some_order E in rw (one_meaning kind E o q.0 m (comes E q.0 q.1)) q.1

  -- at the end of a run with its flag true
  module _ (E F : Eqs) (r : Run kind (state Bool.true E) (state Bool.true F)) where
    final_unifies : Final kind (state Bool.true F) → Unifies (solution F) E
    final_unifies f = (run_unifies_back kind (solution F) r refl (final_alike (state Bool.true F) f)).1

    final_general : Final kind (state Bool.true F) → (η : Subst) → Unifies η E → (x : ℕ) → η x ≡ apply η (solution F x)
    final_general f η u = solution_general F (final_settled kind (state Bool.true F) f) η (run_unifies kind η r u).1

    -- the same assignments of terms, and of kinds
    more_terms : (G : Eqs) (θ : Subst) → Unifies θ (E ++ G) ↔ Unifies θ (F ++ G)
    more_terms G θ = (
      λ h. join (apply θ) F G (run_unifies kind θ r (front (apply θ) E G h)).1 (back (apply θ) E G h),
      λ h. join (apply θ) E G (run_unifies_back kind θ r refl (front (apply θ) F G h)).1 (back (apply θ) F G h),
    )

    more_kinds : (G : Eqs) (κ : ℕ → KTerm) → Fits kind κ (E ++ G) ↔ Fits kind κ (F ++ G)
    more_kinds G κ = (
      λ h. join (kinds kind κ) F G ((run_fits kind κ r).0 (front (kinds kind κ) E G h)) (back (kinds kind κ) E G h),
      λ h. join (kinds kind κ) E G ((run_fits kind κ r).1 (front (kinds kind κ) F G h)) (back (kinds kind κ) F G h),
    )

  the_reading : (E : Eqs) → ComesTo kind E solved → (θ : Subst) × Reads θ E × ((η : Subst) → Reads η E → (x : ℕ) → η x ≡ θ x)
  the_reading E c = go solved c.last c.run c.ends refl
    where
      go : (o : Outcome) (s : State) → Run kind (state Bool.true E) s → Ends kind s o → o ≡ solved
          → (θ : Subst) × Reads θ E × ((η : Subst) → Reads η E → (x : ℕ) → η x ≡ θ x)
      go o s r (at_clash k) p = let z : ◌≡◌ {A = ℕ} 0 1 = cc in absurd (omega arith)
      go o s r (at_true {E = F} f) p = some_reading (solution F) E (final_unifies E F r f) (final_general E F r f)
      go o s r (at_false {E = F} f) p = let z : ◌≡◌ {A = ℕ} 0 1 = cc in absurd (omega arith)

-- Equations with the same assignments come to the same.
means_same : (kind : Signature) (E F : Eqs) → ((θ : Subst) → Unifies θ E ↔ Unifies θ F) → ((κ : ℕ → KTerm) → Fits kind κ E ↔ Fits kind κ F)
    → (o : Outcome) → Means kind E o → Means kind F o
means_same kind E F a b solved h = (h.0, (a h.0).0 h.1)
means_same kind E F a b wrong h = λ k. h (k.0, (b k.0).1 k.1)
means_same kind E F a b false h = ((h.0.0, (b h.0.0).0 h.0.1), λ k. h.1 (k.0, (a k.0).1 k.1))

pub comes_same : (kind : Signature) (E F : Eqs) → ((θ : Subst) → Unifies θ E ↔ Unifies θ F) → ((κ : ℕ → KTerm) → Fits kind κ E ↔ Fits kind κ F)
    → (o : Outcome) → ComesTo kind E o ↔ ComesTo kind F o
comes_same kind E F a b o = (
  λ c. meant kind F o (means_same kind E F a b o (comes kind E o c)),
  λ c. meant kind E o (means_same kind F E (λ θ. ((a θ).1, (a θ).0)) (λ κ. ((b κ).1, (b κ).0)) o (comes kind F o c)),
)

pub every_order : EveryOrder
every_order kind E = record {
  ends = always_ends kind (state Bool.true E);
  comes_to_one = let q = some_order kind E in (q.0, q.1, λ p c. one_meaning kind E p q.0 (comes kind E p c) (comes kind E q.0 q.1));
  comes_when = λ o. (comes kind E o, meant kind E o);
  shows = λ F r f. record { unifies = final_unifies kind E F r f; general = λ η u. (η, final_general kind E F r f η u) };
  reads = the_reading kind E;
  goes_on = λ F G r. comes_same kind (E ++ G) (F ++ G) (more_terms kind E F r G) (more_kinds kind E F r G);
}
