use Rattle.std.proofs.Common.{◌≡◌, ℕ, zero, suc, ◌≤◌, List, [], ◌∷◌, map, sym, refl, ◌∙◌, arith}
use native.Mathlib.Decide.{ℕ_discrete}
use Rattle.graphs.specs.Graph.{walk, find, Each}

pub each_map : {P Q : ℕ → Type 0} → ((x : ℕ) → P x → Q x) → (xs : List ℕ) → Each P xs → Each Q xs
each_map f [] e = tt
each_map f (x ∷ xs) e = (f x e.0, each_map f xs e.1)

pub map_each : {T : Type 0} (f h : ℕ → T) (xs : List ℕ) → Each (λ x. f x ≡ h x) xs → map f xs ≡ map h xs
map_each f h [] e = refl
map_each f h (x ∷ xs) e = let t = map_each f h xs e.1 in let p = e.0 in cc

module _ (up : ℕ → ℕ) where
  pub walk_fixed : (k n : ℕ) → up n ≡ n → walk up k n ≡ n
  walk_fixed zero n e = refl
  walk_fixed (suc k) n e = rw e (walk_fixed k n e)

  pub walk_keeps : {T : Type 0} (ρ : ℕ → T) → ((n : ℕ) → ρ n ≡ ρ (up n)) → (k n : ℕ) → ρ n ≡ ρ (walk up k n)
  walk_keeps ρ l zero n = refl
  walk_keeps ρ l (suc k) n = l n ∙ walk_keeps ρ l k (up n)

  pub walk_end : (k n : ℕ) → walk up (suc k) n ≡ up (walk up k n)
  walk_end zero n = refl
  walk_end (suc k) n = walk_end k (up n)

  module _ (down : (n : ℕ) → up n ≤ n) where
    pub walk_root : (k n : ℕ) → n ≤ k → up (walk up k n) ≡ walk up k n
    walk_root zero n h = let d = down n in omega arith
    walk_root (suc k) n h = go (ℕ_discrete (up n) n) (λ l. walk_root k (up n) l)
      where
        go : Dec (up n ≡ n) → (up n ≤ k → up (walk up k (up n)) ≡ walk up k (up n)) → up (walk up k (up n)) ≡ walk up k (up n)
        go (yes e) r = rw (e, walk_fixed k n e) e
        go (no ne) r = r (let d = down n in omega arith)

    pub walk_enough : (k j n : ℕ) → n ≤ j → j ≤ k → walk up k n ≡ walk up j n
    walk_enough zero j n h l = let z : j ≡ 0 = omega arith in rw z
    walk_enough (suc k) j n h l = go (ℕ_discrete j (suc k)) (λ m. walk_enough k j n h m)
      where
        go : Dec (j ≡ suc k) → (j ≤ k → walk up k n ≡ walk up j n) → walk up (suc k) n ≡ walk up j n
        go (yes e) r = rw e
        go (no ne) r = let m : j ≤ k = omega arith in walk_end k n ∙ (walk_root k n (omega arith) ∙ r m)

    pub find_root : (n : ℕ) → up (find up n) ≡ find up n
    find_root n = walk_root n n (omega arith)

    pub find_up : (n : ℕ) → find up (up n) ≡ find up n
    find_up n = sym (walk_enough n (up n) (up n) (omega arith) (down n)) ∙ (walk_end n n ∙ find_root n)

    pub walk_le : (k n : ℕ) → walk up k n ≤ n
    walk_le zero n = omega arith
    walk_le (suc k) n = let h = walk_le k (up n) in let d = down n in omega arith
