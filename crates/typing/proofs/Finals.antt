-- A state is final exactly when each equation is against a variable that stands nowhere else.
use mathlib.Core.Path.{◌≡◌, refl, sym, ap, ap₂, subst}
use mathlib.Core.Logic.{◌≢◌, ◌⊎◌, inl, inr}
use mathlib.Core.Bool.{Bool}
use mathlib.Core.List.{[], ◌∷◌, ◌++◌}
use Prim.Native.Nat.{ℕ, ◌+◌, ◌≤◌}
use native.Mathlib.Decide.{ℕ_discrete, dec_le}
use native.Mathlib.Omega.{arith}
use Rattle.typing.specs.Terms.{Term, var, con, fun, Terms, arity, Equation, ◌≈◌, Eqs, count, count_in, Signature}
use Rattle.typing.specs.Rules.{State, state, Against, on_left, on_right, Step, same_functions, equal_constants, unequal_constants, same_variable, replacement, Clash, other_functions, two_kinds, constant_function, function_constant, inside_itself, Final}
use Rattle.typing.proofs.Counts.{count_self, count_against}
use Rattle.typing.proofs.Heads.{head, head_against, one_variable}

pub record Bound (pre post : Eqs) (e : Equation) : Type 0 where
  pub x : ℕ
  pub t : Term
  pub is : Against x t e
  pub own : count x t ≡ 0
  pub others : count_in x (pre ++ post) ≡ 0

abbrev pub Settled : Eqs → Type 0
Settled E = (pre post : Eqs) (e : Equation) → E ≡ pre ++ (e ∷ post) → Bound pre post e

-- Some rule applies.
abbrev pub Applies : Signature → State → Type 0
Applies kind s = ((s' : State) × Step kind s s') ⊎ Clash kind s

con_var : {f v x : ℕ} → con f v ≢ var x
con_var p = let z : ◌≡◌ {A = ℕ} 0 1 = cc in omega arith

pub fun_var : {s x : ℕ} {ts : Terms} → fun s ts ≢ var x
fun_var p = let z : ◌≡◌ {A = ℕ} 0 1 = cc in omega arith

-- One equation: a rule applies to it, or it is settled.
module _ (kind : Signature) (b : Bool) (pre post : Eqs) where
  abbrev Look : Equation → Type 0
  Look e = Applies kind (state b (pre ++ (e ∷ post))) ⊎ Bound pre post e

  look_against : {x : ℕ} {t : Term} {e : Equation} → Against x t e → t ≢ var x → Look e
  look_against {x} {t} {e} a n = at (dec_le 1 (count x t)) (dec_le 1 (count_in x (pre ++ post)))
    where
      at : Dec (1 ≤ count x t) → Dec (1 ≤ count_in x (pre ++ post)) → Look e
      at (yes c) d = inl (inr (inside_itself pre post a n c))
      at (no c) (yes d) = inl (inl (_, replacement pre post a (omega arith) d))
      at (no c) (no d) = inr (record { x = x; t = t; is = a; own = omega arith; others = omega arith })

  look_var : (x y : ℕ) → Look (var x ≈ var y)
  look_var x y = at (ℕ_discrete x y)
    where
      at : Dec (x ≡ y) → Look (var x ≈ var y)
      at (yes p) = subst (λ (z : ℕ). Look (var x ≈ var z)) p (inl (inl (_, same_variable pre post x)))
      at (no n) = look_against on_left (λ q. n (cc))

  look_con : (f v g w : ℕ) → Look (con f v ≈ con g w)
  look_con f v g w = at (ℕ_discrete f g) (ℕ_discrete v w) (ℕ_discrete (kind f v) (kind g w))
    where
      differ : (con f v ≢ con g w) → Dec (kind f v ≡ kind g w) → Look (con f v ≈ con g w)
      differ n (yes k) = inl (inl (_, unequal_constants pre post f v g w n k))
      differ n (no k) = inl (inr (two_kinds pre post f v g w k))

      at : Dec (f ≡ g) → Dec (v ≡ w) → Dec (kind f v ≡ kind g w) → Look (con f v ≈ con g w)
      at (yes p) (yes q) k = subst (λ (c : Term). Look (con f v ≈ c)) (ap₂ con p q) (inl (inl (_, equal_constants pre post f v)))
      at (yes p) (no q) k = differ (λ r. q (cc)) k
      at (no p) q k = differ (λ r. p (cc)) k

  look_fun : (s : ℕ) (ts : Terms) (r : ℕ) (us : Terms) → Look (fun s ts ≈ fun r us)
  look_fun s ts r us = at (ℕ_discrete s r) (ℕ_discrete (arity ts) (arity us))
    where
      at : Dec (s ≡ r) → Dec (arity ts ≡ arity us) → Look (fun s ts ≈ fun r us)
      at (yes p) (yes q) = subst (λ (z : ℕ). Look (fun s ts ≈ fun z us)) p (inl (inl (_, same_functions pre post s ts us q)))
      at (yes p) (no q) = inl (inr (other_functions pre post s r ts us (λ h. q h.1)))
      at (no p) q = inl (inr (other_functions pre post s r ts us (λ h. p h.0)))

  look : (l r : Term) → Look (l ≈ r)
  look (var x) (var y) = look_var x y
  look (var x) (con g w) = look_against on_left con_var
  look (var x) (fun r us) = look_against on_left fun_var
  look (con f v) (var y) = look_against (on_right (λ z. con_var)) con_var
  look (con f v) (con g w) = look_con f v g w
  look (con f v) (fun r us) = inl (inr (constant_function pre post f v r us))
  look (fun s ts) (var y) = look_against (on_right (λ z. fun_var)) fun_var
  look (fun s ts) (con g w) = inl (inr (function_constant pre post g w s ts))
  look (fun s ts) (fun r us) = look_fun s ts r us

no_split : (pre post : Eqs) (e : Equation) → ¬ ([] ≡ pre ++ (e ∷ post))
no_split [] post e p = let z : ◌≡◌ {A = ℕ} 0 1 = cc in omega arith
no_split (d ∷ pre) post e p = let z : ◌≡◌ {A = ℕ} 0 1 = cc in omega arith

-- What is found at some place, or else holds at all.
everywhere : {Found : Type 0} (Q : Eqs → Eqs → Equation → Type 0) (E : Eqs)
    → ((pre post : Eqs) (e : Equation) → E ≡ pre ++ (e ∷ post) → Found ⊎ Q pre post e)
    → Found ⊎ ((pre post : Eqs) (e : Equation) → E ≡ pre ++ (e ∷ post) → Q pre post e)
everywhere Q [] f = inr (λ pre post e p. absurd (no_split pre post e p))
everywhere {Found} Q (d ∷ E) f = go (f [] E d refl) (everywhere (λ pre post e. Q (d ∷ pre) post e) E (λ pre post e p. f (d ∷ pre) post e (ap (λ (F : Eqs). d ∷ F) p)))
  where
    all : Q [] E d → ((pre post : Eqs) (e : Equation) → E ≡ pre ++ (e ∷ post) → Q (d ∷ pre) post e)
        → (pre post : Eqs) (e : Equation) → (d ∷ E) ≡ pre ++ (e ∷ post) → Q pre post e
    all q r [] post e p = subst (λ (F : Eqs). Q [] F e) (cc) (subst (λ (c : Equation). Q [] E c) (cc) q)
    all q r (c ∷ pre) post e p = subst (λ (c : Equation). Q (c ∷ pre) post e) (cc) (r pre post e (cc))

    go : Found ⊎ Q [] E d
        → Found ⊎ ((pre post : Eqs) (e : Equation) → E ≡ pre ++ (e ∷ post) → Q (d ∷ pre) post e)
        → Found ⊎ ((pre post : Eqs) (e : Equation) → (d ∷ E) ≡ pre ++ (e ∷ post) → Q pre post e)
    go (inl x) y = inl x
    go (inr q) (inl x) = inl x
    go (inr q) (inr r) = inr (all q r)

pub next : (kind : Signature) (s : State) → Applies kind s ⊎ Settled s.eqs
next kind s = everywhere Bound s.eqs (λ pre post e p.
    subst (λ (F : Eqs). Applies kind (state s.flag F) ⊎ Bound pre post e) (sym p) (look kind s.flag pre post e.left e.right))

pub final_settled : (kind : Signature) (s : State) → Final kind s → Settled s.eqs
final_settled kind s h = at (next kind s)
  where
    at : Applies kind s ⊎ Settled s.eqs → Settled s.eqs
    at (inl (inl r)) = absurd (h.no_step r.0 r.1)
    at (inl (inr c)) = absurd (h.no_clash c)
    at (inr q) = q

-- What a settled equation is not.
module _ {pre post : Eqs} {e : Equation} (B : Bound pre post e) where
  is_head : 1 ≤ head B.x e.left e.right
  is_head = omega (arith, head_against B.x B.is, count_self B.x)

  once : count B.x e.left + count B.x e.right ≡ 1
  once = omega (arith, count_against B.x B.is, count_self B.x, B.own)

  the_same : {x : ℕ} {t : Term} → Against x t e → (count x t ≡ 0) × (count_in x (pre ++ post) ≡ 0)
  the_same {x} {t} a = subst (λ (z : ℕ). (count z t ≡ 0) × (count_in z (pre ++ post) ≡ 0)) (one_variable B.is a)
      (omega (arith, once, count_against B.x a, ap (λ (z : ℕ). count B.x (var z)) (one_variable B.is a), count_self B.x), B.others)

settled_no_step : {kind : Signature} {s s' : State} → Settled s.eqs → ¬ Step kind s s'
settled_no_step h (same_functions pre post s ts us a) = omega (arith, is_head (h pre post _ refl))
settled_no_step h (equal_constants pre post f v) = omega (arith, is_head (h pre post _ refl))
settled_no_step h (unequal_constants pre post f v g w n k) = omega (arith, is_head (h pre post _ refl))
settled_no_step h (same_variable pre post x) = omega (arith, once (h pre post _ refl))
settled_no_step h (replacement pre post a c d) = omega (arith, (the_same (h pre post _ refl) a).1)

settled_no_clash : {kind : Signature} {s : State} → Settled s.eqs → ¬ Clash kind s
settled_no_clash h (other_functions pre post s r ts us n) = omega (arith, is_head (h pre post _ refl))
settled_no_clash h (two_kinds pre post f v g w n) = omega (arith, is_head (h pre post _ refl))
settled_no_clash h (constant_function pre post f v s ts) = omega (arith, is_head (h pre post _ refl))
settled_no_clash h (function_constant pre post f v s ts) = omega (arith, is_head (h pre post _ refl))
settled_no_clash h (inside_itself pre post a n c) = omega (arith, (the_same (h pre post _ refl) a).0)

pub settled_final : (kind : Signature) (s : State) → Settled s.eqs → Final kind s
settled_final kind s h = record { no_step = λ s'. settled_no_step h; no_clash = settled_no_clash h }
