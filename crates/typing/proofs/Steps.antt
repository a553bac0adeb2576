-- What a step keeps: the assignments of kinds that fit, and, while the flag stands, the assignments of terms that make alike.
use mathlib.Core.Path.{◌≡◌, refl, sym, ◌∙◌, ap}
use mathlib.Core.Logic.{◌↔◌}
use mathlib.Core.Bool.{Bool, false≢true}
use Prim.Native.Nat.{ℕ}
use Rattle.typing.specs.Terms.{Term, con, Terms, arguments, Subst, apply, replaces, KTerm, base, Signature, Alike, Unifies, Fits}
use Rattle.typing.specs.Rules.{State, Step, same_functions, equal_constants, unequal_constants, same_variable, replacement, Run, stop, step}
use Rattle.typing.proofs.Readings.{Reading, term_reading, kind_reading, front, back, join, replaces_out, replaces_in, fun_out, fun_in, against}

module _ {A As : Type 0} {value : Term → A} {values : Terms → As} (R : Reading value values) (kind : Signature) where
  forward : {s s' : State} → Step kind s s' → Alike value s.eqs → Alike value s'.eqs
  forward (same_functions pre post s ts us a) h =
      let k = back value pre _ h in
      join value pre _ (front value pre _ h) (join value (arguments ts us) _ (fun_out R s ts us k.0) k.1)
  forward (equal_constants pre post f v) h = join value pre _ (front value pre _ h) (back value pre _ h).1
  forward (unequal_constants pre post f v g w n k) h = join value pre _ (front value pre _ h) (back value pre _ h).1
  forward (same_variable pre post x) h = join value pre _ (front value pre _ h) (back value pre _ h).1
  forward (replacement pre post {x = x} {t = t} a c d) h =
      let k = back value pre _ h in
      let p = against R a k.0 in
      join value (replaces x t pre) _ (replaces_out R x t p pre (front value pre _ h)) (k.0, replaces_out R x t p post k.1)

  -- the converse, where constants that are dropped with the flag are alike
  backward : {s s' : State} → Step kind s s'
      → ((f v g w : ℕ) → kind f v ≡ kind g w → s'.flag ≡ Bool.false → value (con f v) ≡ value (con g w))
      → Alike value s'.eqs → Alike value s.eqs
  backward (same_functions pre post s ts us a) d h =
      let k = back value pre _ h in
      join value pre _ (front value pre _ h) (fun_in R s ts us a (front value (arguments ts us) _ k), back value (arguments ts us) _ k)
  backward (equal_constants pre post f v) d h = join value pre _ (front value pre _ h) (refl, back value pre _ h)
  backward (unequal_constants pre post f v g w n k) d h = join value pre _ (front value pre _ h) (d f v g w k refl, back value pre _ h)
  backward (same_variable pre post x) d h = join value pre _ (front value pre _ h) (refl, back value pre _ h)
  backward (replacement pre post {x = x} {t = t} a c d) dr h =
      let k = back value (replaces x t pre) _ h in
      let p = against R a k.0 in
      join value pre _ (replaces_in R x t p pre (front value (replaces x t pre) _ h)) (k.0, replaces_in R x t p post k.1)

-- A step keeps which assignments of kinds fit.
step_fits : (kind : Signature) (κ : ℕ → KTerm) {s s' : State} → Step kind s s' → Fits kind κ s.eqs ↔ Fits kind κ s'.eqs
step_fits kind κ r = (forward (kind_reading kind κ) kind r, backward (kind_reading kind κ) kind r (λ f v g w p q. ap base p))

-- A step keeps an assignment of terms that makes alike, and then the flag too.
step_unifies : (kind : Signature) (θ : Subst) {s s' : State} → Step kind s s' → Unifies θ s.eqs → (s'.flag ≡ s.flag) × Unifies θ s'.eqs
step_unifies kind θ r h = (flag-kept r h, forward (term_reading θ) kind r h)
  where
    flag-kept : {s s' : State} → Step kind s s' → Unifies θ s.eqs → s'.flag ≡ s.flag
    flag-kept (same_functions pre post s ts us a) h = refl
    flag-kept (equal_constants pre post f v) h = refl
    flag-kept (unequal_constants pre post f v g w n k) h = absurd (n (back (apply θ) pre _ h).0)
    flag-kept (same_variable pre post x) h = refl
    flag-kept (replacement pre post a c d) h = refl

-- Where the flag still stands after a step, it stood before, and nothing new makes alike.
step_unifies_back : (kind : Signature) (θ : Subst) {s s' : State} → Step kind s s' → s'.flag ≡ Bool.true → Unifies θ s'.eqs → (s.flag ≡ Bool.true) × Unifies θ s.eqs
step_unifies_back kind θ r p h = (flag-back r p, backward (term_reading θ) kind r (λ f v g w k q. absurd (false≢true (sym q ∙ p))) h)
  where
    flag-back : {s s' : State} → Step kind s s' → s'.flag ≡ Bool.true → s.flag ≡ Bool.true
    flag-back (same_functions pre post s ts us a) p = p
    flag-back (equal_constants pre post f v) p = p
    flag-back (unequal_constants pre post f v g w n k) p = absurd (false≢true p)
    flag-back (same_variable pre post x) p = p
    flag-back (replacement pre post a c d) p = p

-- The same over runs.
pub run_fits : (kind : Signature) (κ : ℕ → KTerm) {s s' : State} → Run kind s s' → Fits kind κ s.eqs ↔ Fits kind κ s'.eqs
run_fits kind κ stop = (λ h. h, λ h. h)
run_fits kind κ (step r rs) =
    let a = step_fits kind κ r in
    let b = run_fits kind κ rs in
    (λ h. b.0 (a.0 h), λ h. a.1 (b.1 h))

pub run_unifies : (kind : Signature) (θ : Subst) {s s' : State} → Run kind s s' → Unifies θ s.eqs → (s'.flag ≡ s.flag) × Unifies θ s'.eqs
run_unifies kind θ stop h = (refl, h)
run_unifies kind θ (step r rs) h =
    let a = step_unifies kind θ r h in
    let b = run_unifies kind θ rs a.1 in
    (b.0 ∙ a.0, b.1)

pub run_unifies_back : (kind : Signature) (θ : Subst) {s s' : State} → Run kind s s' → s'.flag ≡ Bool.true → Unifies θ s'.eqs → (s.flag ≡ Bool.true) × Unifies θ s.eqs
run_unifies_back kind θ stop p h = (p, h)
run_unifies_back kind θ (step r rs) p h =
    let b = run_unifies_back kind θ rs p h in
    step_unifies_back kind θ r b.0 b.1
