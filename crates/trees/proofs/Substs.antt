-- Substitutions: one after another, agreement below a bound, raising, and one laid over another from a bound on
use Rattle.std.proofs.Common.{◌≡◌, ℕ, ◌+◌, ◌-◌, ◌<◌, ◌≤◌, List, [], ◌∷◌, ◌++◌, sym, refl, ap, ◌∙◌, ap₂, arith}
use native.Mathlib.Decide.{dec_lt}
use Rattle.trees.specs.Terms.{Term, Terms, arity, var, con, fun, none, more, Subst, apply, applies, Below, Belows, Eqs, EqsBelow, Unifies}
use Rattle.trees.specs.Tree.{Goal, Program, listed, instance_of, instances, GoalsBelow, raised}

mutual
  pub apply_apply : (t : Term) (θ ρ : Subst) → apply θ (apply ρ t) ≡ apply (λ x. apply θ (ρ x)) t
  apply_apply (var x) θ ρ = refl
  apply_apply (con f v) θ ρ = refl
  apply_apply (fun s ts) θ ρ = ap (fun s) (applies_applies ts θ ρ)

  pub applies_applies : (ts : Terms) (θ ρ : Subst) → applies θ (applies ρ ts) ≡ applies (λ x. apply θ (ρ x)) ts
  applies_applies none θ ρ = refl
  applies_applies (more t ts) θ ρ = ap₂ more (apply_apply t θ ρ) (applies_applies ts θ ρ)

mutual
  pub apply_agree : (t : Term) (n : ℕ) (θ ρ : Subst) → ((x : ℕ) → x < n → θ x ≡ ρ x) → Below n t → apply θ t ≡ apply ρ t
  apply_agree (var x) n θ ρ a h = a x h
  apply_agree (con f v) n θ ρ a h = refl
  apply_agree (fun s ts) n θ ρ a h = ap (fun s) (applies_agree ts n θ ρ a h)

  pub applies_agree : (ts : Terms) (n : ℕ) (θ ρ : Subst) → ((x : ℕ) → x < n → θ x ≡ ρ x) → Belows n ts → applies θ ts ≡ applies ρ ts
  applies_agree none n θ ρ a h = refl
  applies_agree (more t ts) n θ ρ a h = ap₂ more (apply_agree t n θ ρ a h.0) (applies_agree ts n θ ρ a h.1)

mutual
  pub below_raised : (t : Term) (n m b : ℕ) → b + n ≤ m → Below n t → Below m (apply (raised b) t)
  below_raised (var x) n m b l h = omega arith
  below_raised (con f v) n m b l h = tt
  below_raised (fun s ts) n m b l h = belows_raised ts n m b l h

  pub belows_raised : (ts : Terms) (n m b : ℕ) → b + n ≤ m → Belows n ts → Belows m (applies (raised b) ts)
  belows_raised none n m b l h = tt
  belows_raised (more t ts) n m b l h = (below_raised t n m b l h.0, belows_raised ts n m b l h.1)

mutual
  pub below_up : (t : Term) (n m : ℕ) → n ≤ m → Below n t → Below m t
  below_up (var x) n m l h = omega arith
  below_up (con f v) n m l h = tt
  below_up (fun s ts) n m l h = belows_up ts n m l h

  pub belows_up : (ts : Terms) (n m : ℕ) → n ≤ m → Belows n ts → Belows m ts
  belows_up none n m l h = tt
  belows_up (more t ts) n m l h = (below_up t n m l h.0, belows_up ts n m l h.1)

pub eqs_up : (E : Eqs) (n m : ℕ) → n ≤ m → EqsBelow n E → EqsBelow m E
eqs_up [] n m l h = tt
eqs_up (e ∷ E) n m l h = ((below_up e.left n m l h.0.0, below_up e.right n m l h.0.1), eqs_up E n m l h.1)

pub unifies_agree : (E : Eqs) (n : ℕ) (θ ρ : Subst) → ((x : ℕ) → x < n → θ x ≡ ρ x) → EqsBelow n E → Unifies θ E → Unifies ρ E
unifies_agree [] n θ ρ a h u = tt
unifies_agree (e ∷ E) n θ ρ a h u =
    (sym (apply_agree e.left n θ ρ a h.0.0) ∙ (u.0 ∙ apply_agree e.right n θ ρ a h.0.1), unifies_agree E n θ ρ a h.1 u.1)

-- goals
pub goal_path : (g h : Goal) → g.symbol ≡ h.symbol → g.arguments ≡ h.arguments → g ≡ h
goal_path g h p q = λ i. record { symbol = p i; arguments = q i }

pub instances_instances : (gs : List Goal) (θ ρ : Subst) → instances θ (instances ρ gs) ≡ instances (λ x. apply θ (ρ x)) gs
instances_instances [] θ ρ = refl
instances_instances (g ∷ gs) θ ρ = ap₂ {C = List Goal} ◌∷◌ (goal_path _ _ refl (applies_applies g.arguments θ ρ)) (instances_instances gs θ ρ)

pub instances_agree : (gs : List Goal) (n : ℕ) (θ ρ : Subst) → ((x : ℕ) → x < n → θ x ≡ ρ x) → GoalsBelow n gs → instances θ gs ≡ instances ρ gs
instances_agree [] n θ ρ a h = refl
instances_agree (g ∷ gs) n θ ρ a h =
    ap₂ {C = List Goal} ◌∷◌ (goal_path _ _ refl (applies_agree g.arguments n θ ρ a h.0)) (instances_agree gs n θ ρ a h.1)

pub instances_append : (gs hs : List Goal) (θ : Subst) → instances θ (gs ++ hs) ≡ instances θ gs ++ instances θ hs
instances_append [] hs θ = refl
instances_append (g ∷ gs) hs θ = ap {B = List Goal} (λ r. instance_of θ g ∷ r) (instances_append gs hs θ)

pub goals_raised : (gs : List Goal) (n m b : ℕ) → b + n ≤ m → GoalsBelow n gs → GoalsBelow m (instances (raised b) gs)
goals_raised [] n m b l h = tt
goals_raised (g ∷ gs) n m b l h = (belows_raised g.arguments n m b l h.0, goals_raised gs n m b l h.1)

pub goals_up : (gs : List Goal) (n m : ℕ) → n ≤ m → GoalsBelow n gs → GoalsBelow m gs
goals_up [] n m l h = tt
goals_up (g ∷ gs) n m l h = (belows_up g.arguments n m l h.0, goals_up gs n m l h.1)

pub goals_append : (gs hs : List Goal) (n : ℕ) → GoalsBelow n gs → GoalsBelow n hs → GoalsBelow n (gs ++ hs)
goals_append [] hs n h k = k
goals_append (g ∷ gs) hs n h k = (h.0, goals_append gs hs n h.1 k)

pub arity_applies : (ts : Terms) (θ : Subst) → arity (applies θ ts) ≡ arity ts
arity_applies none θ = refl
arity_applies (more t ts) θ = ap (λ n. 1 + n) (arity_applies ts θ)

pub listed_instance : (P : Program) (g : Goal) (θ : Subst) → listed P (instance_of θ g) ≡ listed P g
listed_instance P g θ = ap (P g.symbol) (arity_applies g.arguments θ)

-- θ below b, and σ from b on
pick : {A : Type 0} → Dec A → Term → Term → Term
pick (yes a) t u = t
pick (no a) t u = u

pub extended : Subst → ℕ → Subst → Subst
extended θ b σ x = pick (dec_lt x b) (θ x) (σ (x - b))

pub extended_below : (θ : Subst) (b : ℕ) (σ : Subst) (x : ℕ) → x < b → θ x ≡ extended θ b σ x
unfolding extended pick
extended_below θ b σ x h = go (dec_lt x b)
  where
    go : (d : Dec (x < b)) → θ x ≡ pick d (θ x) (σ (x - b))
    go (yes a) = refl
    go (no a) = absurd (a h)

pub extended_above : (θ : Subst) (b : ℕ) (σ : Subst) (x : ℕ) → extended θ b σ (b + x) ≡ σ x
unfolding extended pick
extended_above θ b σ x = go (dec_lt (b + x) b)
  where
    go : (d : Dec (b + x < b)) → pick d (θ (b + x)) (σ (b + x - b)) ≡ σ x
    go (yes a) = absurd (omega arith)
    go (no a) = ap σ (omega arith)
