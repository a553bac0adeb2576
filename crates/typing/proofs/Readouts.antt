-- There is one reading of equations that some assignment makes alike.
use mathlib.Core.Path.{◌≡◌, refl, sym, ◌∙◌, ap, ap₂, subst}
use mathlib.Core.Logic.{◌⊎◌, inl, inr}
use mathlib.Core.List.{[], ◌∷◌}
use Prim.Native.Nat.{ℕ, zero, suc, ◌+◌, ◌≤◌, ◌<◌}
use native.Mathlib.Decide.{ℕ_discrete, dec_le}
use native.Mathlib.Omega.{arith}
use Rattle.typing.specs.Terms.{Term, var, con, fun, Terms, none, more, Eqs, Subst, apply, applies, count, counts, Unifies}
use Rattle.typing.specs.Rules.{Reads}
use Rattle.typing.proofs.Counts.{count_self, count_var, one_of, same_on, apply_var}

-- A term that is not a variable is none after an assignment.
pub was_var : (δ : Subst) (t : Term) (y : ℕ) → apply δ t ≡ var y → (z : ℕ) × (t ≡ var z)
was_var δ (var x) y p = (x, refl)
was_var δ (con f v) y p = let z : ◌≡◌ {A = ℕ} 0 1 = cc in absurd (omega arith)
was_var δ (fun s ts) y p = let z : ◌≡◌ {A = ℕ} 0 1 = cc in absurd (omega arith)

in_var : {t : Term} {y : ℕ} → t ≡ var y → 1 ≤ count y t
in_var {t} {y} p = omega (arith, ap (λ (u : Term). count y u) p, count_self y)

-- Two readings are the same.
pub one_reading : {σ τ : Subst} {E : Eqs} → Reads σ E → Reads τ E → (x : ℕ) → τ x ≡ σ x
one_reading {σ} {τ} {E} a b x = into.1 x ∙ same_on into.0 var (σ x) own ∙ apply_var (σ x)
  where
    into : (ε : Subst) × ((x : ℕ) → τ x ≡ apply ε (σ x))
    into = a.general.general τ b.general.unifies

    back : (δ : Subst) × ((x : ℕ) → σ x ≡ apply δ (τ x))
    back = b.general.general σ a.general.unifies

    own : (y : ℕ) → 1 ≤ count y (σ x) → into.0 y ≡ var y
    own y c = sym (into.1 y ∙ ap (apply into.0) here.0) ∙ z.1 ∙ ap var (omega (arith, above, below))
      where
        here : (σ y ≡ var y) × ((z : ℕ) → σ z ≡ var y → y ≤ z)
        here = a.lowest x y c

        z : (z : ℕ) × (τ y ≡ var z)
        z = was_var back.0 (τ y) y (sym (back.1 y) ∙ here.0)

        there : (τ z.0 ≡ var z.0) × ((w : ℕ) → τ w ≡ var z.0 → z.0 ≤ w)
        there = b.lowest y z.0 (in_var z.1)

        above : z.0 ≤ y
        above = there.1 y z.1

        below : y ≤ z.0
        below = here.1 z.0 (back.1 z.0 ∙ ap (apply back.0) (there.0 ∙ sym z.1) ∙ sym (back.1 y) ∙ here.0)

-- The least number of a kind that some number is of.
module _ (P : ℕ → Type 0) (decide : (n : ℕ) → Dec (P n)) where
  abbrev Least : ℕ → Type 0
  Least m = P m × ((z : ℕ) → P z → m ≤ z)

  search_below : (k : ℕ) → ((z : ℕ) → z < k → ¬ P z) ⊎ ((m : ℕ) × Least m)
  search_below zero = inl (λ z h. absurd (omega arith))
  search_below (suc k) = at (search_below k) (decide k)
    where
      at : ((z : ℕ) → z < k → ¬ P z) ⊎ ((m : ℕ) × Least m) → Dec (P k) → ((z : ℕ) → z < suc k → ¬ P z) ⊎ ((m : ℕ) × Least m)
      at (inr l) d = inr l
      at (inl n) (yes p) = inr (k, (p, λ z q. lower z q (dec_le k z)))
        where
          lower : (z : ℕ) → P z → Dec (k ≤ z) → k ≤ z
          lower z q (yes h) = h
          lower z q (no h) = absurd (n z (omega arith) q)
      at (inl n) (no p) = inl (λ z h q. lower z h q (ℕ_discrete z k))
        where
          lower : (z : ℕ) → z < suc k → P z → ¬ Dec (z ≡ k)
          lower z h q (yes e) = p (subst P e q)
          lower z h q (no e) = n z (omega arith) q

  -- it, or n itself where no number up to n is of the kind
  abbrev least_or : (n : ℕ) → ((z : ℕ) → z < suc n → ¬ P z) ⊎ ((m : ℕ) × Least m) → ℕ
  least_or n (inl h) = n
  least_or n (inr l) = l.0

  least_is : (n : ℕ) → P n → (s : ((z : ℕ) → z < suc n → ¬ P z) ⊎ ((m : ℕ) × Least m)) → Least (least_or n s)
  least_is n p (inl h) = absurd (h n (omega arith) p)
  least_is n p (inr l) = l.1

decide_var : (t : Term) (y : ℕ) → Dec (t ≡ var y)
decide_var (var x) y = at (ℕ_discrete x y)
  where
    at : Dec (x ≡ y) → Dec (var x ≡ var y)
    at (yes p) = yes (ap var p)
    at (no n) = no (λ p. n (cc))
decide_var (con f v) y = no (λ p. let z : ◌≡◌ {A = ℕ} 0 1 = cc in omega arith)
decide_var (fun s ts) y = no (λ p. let z : ◌≡◌ {A = ℕ} 0 1 = cc in omega arith)

mutual
  pub apply_apply : (ρ σ : Subst) (u : Term) → apply ρ (apply σ u) ≡ apply (λ x. apply ρ (σ x)) u
  apply_apply ρ σ (var x) = refl
  apply_apply ρ σ (con f v) = refl
  apply_apply ρ σ (fun s ts) = ap (fun s) (applies_applies ρ σ ts)

  applies_applies : (ρ σ : Subst) (us : Terms) → applies ρ (applies σ us) ≡ applies (λ x. apply ρ (σ x)) us
  applies_applies ρ σ none = refl
  applies_applies ρ σ (more u us) = ap₂ more (apply_apply ρ σ u) (applies_applies ρ σ us)

instance_unifies : (ρ σ : Subst) (E : Eqs) → Unifies σ E → Unifies (λ x. apply ρ (σ x)) E
instance_unifies ρ σ [] h = tt
instance_unifies ρ σ (e ∷ E) h =
    (sym (apply_apply ρ σ e.left) ∙ ap (apply ρ) h.0 ∙ apply_apply ρ σ e.right, instance_unifies ρ σ E h.1)

-- What leaves a term as it is leaves its variables.
mutual
  fixed : (σ : Subst) (u : Term) → apply σ u ≡ u → (y : ℕ) → 1 ≤ count y u → σ y ≡ var y
  fixed σ (var x) p y c = ap σ (count_var y x c) ∙ p ∙ ap var (sym (count_var y x c))
  fixed σ (con f v) p y c = absurd (omega arith)
  fixed σ (fun s ts) p y c = fixed* σ ts (cc) y c

  fixed* : (σ : Subst) (us : Terms) → applies σ us ≡ us → (y : ℕ) → 1 ≤ counts y us → σ y ≡ var y
  fixed* σ none p y c = absurd (omega arith)
  fixed* σ (more u us) p y c = at (one_of (count y u) (counts y us) c) (fixed σ u (cc) y) (fixed* σ us (cc) y)
    where
      at : (1 ≤ count y u) ⊎ (1 ≤ counts y us) → (1 ≤ count y u → σ y ≡ var y) → (1 ≤ counts y us → σ y ≡ var y) → σ y ≡ var y
      at (inl h) f g = f h
      at (inr h) f g = g h

-- A variable of a term after an assignment came with a variable of the term.
mutual
  came_with : (ρ : Subst) (u : Term) (y : ℕ) → 1 ≤ count y (apply ρ u) → (w : ℕ) × (1 ≤ count w u) × (1 ≤ count y (ρ w))
  came_with ρ (var x) y c = (x, omega (arith, count_self x), c)
  came_with ρ (con f v) y c = absurd (omega arith)
  came_with ρ (fun s ts) y c = came_with* ρ ts y c

  came_with* : (ρ : Subst) (us : Terms) (y : ℕ) → 1 ≤ counts y (applies ρ us) → (w : ℕ) × (1 ≤ counts w us) × (1 ≤ count y (ρ w))
  came_with* ρ none y c = absurd (omega arith)
  came_with* ρ (more u us) y c = at (one_of (count y (apply ρ u)) (counts y (applies ρ us)) c) (came_with ρ u y) (came_with* ρ us y)
    where
      at : (1 ≤ count y (apply ρ u)) ⊎ (1 ≤ counts y (applies ρ us))
          → (1 ≤ count y (apply ρ u) → (w : ℕ) × (1 ≤ count w u) × (1 ≤ count y (ρ w)))
          → (1 ≤ counts y (applies ρ us) → (w : ℕ) × (1 ≤ counts w us) × (1 ≤ count y (ρ w)))
          → (w : ℕ) × (1 ≤ count w u + counts w us) × (1 ≤ count y (ρ w))
      at (inl h) f g = let q = f h in (q.0, omega (arith, q.1), q.2)
      at (inr h) f g = let q = g h in (q.0, omega (arith, q.1), q.2)

-- Of a most general assignment that changes nothing when made twice, the reading: each variable y gives way to the lowest that is tied to it.
module _ (σ : Subst) (E : Eqs) (unifies : Unifies σ E) (own : (η : Subst) → Unifies η E → (x : ℕ) → η x ≡ apply η (σ x)) where
  abbrev Tied : ℕ → ℕ → Type 0
  Tied y z = σ z ≡ var y

  low : ℕ → ℕ
  low y = least_or (Tied y) (λ z. decide_var (σ z) y) y (search_below (Tied y) (λ z. decide_var (σ z) y) (suc y))

  low_least : (y : ℕ) → σ y ≡ var y → (σ (low y) ≡ var y) × ((z : ℕ) → σ z ≡ var y → low y ≤ z)
  unfolding low
  low_least y p = least_is (Tied y) (λ z. decide_var (σ z) y) y p (search_below (Tied y) (λ z. decide_var (σ z) y) (suc y))

  unmoved : (x y : ℕ) → 1 ≤ count y (σ x) → σ y ≡ var y
  unmoved x y c = fixed σ (σ x) (sym (own σ unifies x)) y c

  abbrev ρ : Subst
  ρ y = var (low y)

  abbrev reading : Subst
  reading x = apply ρ (σ x)

  reading_general : (η : Subst) → Unifies η E → (x : ℕ) → η x ≡ apply η (reading x)
  reading_general η u x = own η u x
      ∙ sym (apply_apply η ρ (σ x)
      ∙ same_on (λ y. η (low y)) η (σ x) (λ y c. own η u (low y) ∙ ap (apply η) (low_least y (unmoved x y c)).0))

  reading_lowest : (x y : ℕ) → 1 ≤ count y (reading x) → (reading y ≡ var y) × ((z : ℕ) → reading z ≡ var y → y ≤ z)
  reading_lowest x y c = go (came_with ρ (σ x) y c)
    where
      go : (w : ℕ) × (1 ≤ count w (σ x)) × (1 ≤ count y (ρ w)) → (reading y ≡ var y) × ((z : ℕ) → reading z ≡ var y → y ≤ z)
      go q = (ap (apply ρ) to-w ∙ ap var (sym is-low), lower)
        where
          w : ℕ
          w = q.0

          is-low : y ≡ low w
          is-low = count_var y (low w) q.2

          to-w : σ y ≡ var w
          to-w = ap σ is-low ∙ (low_least w (unmoved x w q.1)).0

          lower : (z : ℕ) → reading z ≡ var y → y ≤ z
          lower z p = omega (arith, is-low, (low_least w (unmoved x w q.1)).1 z (v.1 ∙ ap var same))
            where
              v : (v : ℕ) × (σ z ≡ var v)
              v = was_var ρ (σ z) y p

              low-v : low v.0 ≡ y
              low-v = let e : var (low v.0) ≡ var y = sym (ap (apply ρ) v.1) ∙ p in cc

              same : v.0 ≡ w
              same = let e : var v.0 ≡ var w = sym (low_least v.0 (unmoved z v.0 (in_var v.1))).0 ∙ ap σ low-v ∙ to-w in cc

  reading_reads : Reads reading E
  reading_reads = record {
    general = record { unifies = instance_unifies ρ σ E unifies; general = λ η u. (η, reading_general η u) };
    lowest = reading_lowest;
  }

pub some_reading : (σ : Subst) (E : Eqs) → Unifies σ E → ((η : Subst) → Unifies η E → (x : ℕ) → η x ≡ apply η (σ x))
    → (θ : Subst) × Reads θ E × ((η : Subst) → Reads η E → (x : ℕ) → η x ≡ θ x)
some_reading σ E u own = (reading σ E u own, reading_reads σ E u own, λ η h. one_reading (reading_reads σ E u own) h)
