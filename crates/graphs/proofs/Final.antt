use Rattle.std.proofs.Common.{◌≡◌, ℕ, zero, suc, ◌<◌, List, [], ◌∷◌, map, sym, refl, ap, ◌∙◌, arith}
use native.Mathlib.Decide.{ℕ_discrete}
use Rattle.graphs.specs.Graph.{Shape, free, atom, app, Graph, Algebra, Each, find, Atoms, Values, Sat, Closed, Sound, Ordered, put, build, solution}
use Rattle.graphs.proofs.Walks.{each_map, map_each, walk_fixed, walk_keeps, find_root, find_up}

module _ (A : Algebra) (h : ℕ → A.T) (g : Graph) (up rank : ℕ → ℕ) (sound : Sound g up) (ordered : Ordered g up rank) where
  open A use {T, atom_t, app_t}

  -- with enough fuel, more changes nothing
  pub build_enough : (k j r : ℕ) → up r ≡ r → rank r < k → rank r < j → build A h g up k r ≡ build A h g up j r
  build_enough zero j r e l m = absurd (omega arith)
  build_enough (suc k) zero r e l m = absurd (omega arith)
  build_enough (suc k) (suc j) r e l m = go (g r) refl (λ x o p. build_enough k j (find up x) (find_root up sound.down x) o p)
    where
      go : (sh : Shape) → g r ≡ sh
          → ((x : ℕ) → rank (find up x) < k → rank (find up x) < j → build A h g up k (find up x) ≡ build A h g up j (find up x))
          → put A (g r) (h r) (λ m. build A h g up k (find up m)) ≡ put A (g r) (h r) (λ m. build A h g up j (find up m))
      go free q ih = rw q
      go (atom f v) q ih = rw q
      go (app s ks) q ih = rw q (ap (app_t s) (map_each (λ m. build A h g up k (find up m)) (λ m. build A h g up j (find up m)) ks
          (each_map (λ x o. ih x (omega arith) (omega arith)) ks (ordered r s ks e q))))

  abbrev ρ : ℕ → T
  ρ = solution A h g up rank

  solution_root : (r : ℕ) → up r ≡ r → ρ r ≡ put A (g r) (h r) (λ m. build A h g up (rank r) (find up m))
  solution_root r e = rw (walk_fixed up r r e)

  pub solution_linked : (n : ℕ) → ρ n ≡ ρ (up n)
  solution_linked n = rw (find_up up sound.down n)

  pub solution_free : (r : ℕ) → up r ≡ r → g r ≡ free → ρ r ≡ h r
  solution_free r e q = solution_root r e ∙ rw q

  pub solution_atoms : Atoms A g ρ
  solution_atoms n f v q = solution_root n (sound.atom_root n f v q) ∙ rw q

  solution_apps_root : (r s : ℕ) (ks : List ℕ) → up r ≡ r → g r ≡ app s ks → ρ r ≡ app_t s (map ρ ks)
  solution_apps_root r s ks e q = solution_root r e ∙ rw q (ap (app_t s) (map_each (λ m. build A h g up (rank r) (find up m)) ρ ks
      (each_map (λ x o. build_enough (rank r) (suc (rank (find up x))) (find up x) (find_root up sound.down x) o (omega arith)) ks (ordered r s ks e q))))

  pub solution_sat : Sat A up [] ρ
  solution_sat = record { linked = solution_linked; stacked = tt }

  module _ (closed : Closed A g up []) where
    apps_below : (b n s : ℕ) (ks : List ℕ) → n < b → g n ≡ app s ks → ρ n ≡ app_t s (map ρ ks)
    apps_below zero n s ks l q = absurd (omega arith)
    apps_below (suc b) n s ks l q = go (ℕ_discrete (up n) n) (sound.app_link n s ks q) (λ ls m p. apps_below b (up n) s ls m p)
      where
        go : Dec (up n ≡ n) → (ls : List ℕ) × (g (up n) ≡ app s ls) → ((ls : List ℕ) → up n < b → g (up n) ≡ app s ls → ρ (up n) ≡ app_t s (map ρ ls))
            → ρ n ≡ app_t s (map ρ ks)
        go (yes e) w ih = solution_apps_root n s ks e q
        go (no ne) w ih =
            let d = sound.down n in
            solution_linked n ∙ (ih w.0 (omega arith) w.1
            ∙ ap (app_t s) (sym (closed n s ks w.0 q w.1 ρ solution_atoms solution_sat)))

    -- the solved form is a valuation that respects the links
    pub solution_values : Values A g ρ
    solution_values = record { atoms = solution_atoms; apps = λ n s ks q. apps_below (suc n) n s ks (omega arith) q }

-- every valuation that respects the links is an image of the solved form
module _ (A B : Algebra) (h : ℕ → A.T) (g : Graph) (up rank : ℕ → ℕ) (sound : Sound g up) (ordered : Ordered g up rank)
    (f : A.T → B.T) (f-atom : (a v : ℕ) → f (A.atom_t a v) ≡ B.atom_t a v)
    (f-app : (s : ℕ) (ts : List A.T) → f (A.app_t s ts) ≡ B.app_t s (map f ts))
    (τ : ℕ → B.T) (values : Values B g τ) (linked : (n : ℕ) → τ n ≡ τ (up n))
    (f-free : (r : ℕ) → g r ≡ free → f (h r) ≡ τ r) where
  map_image : (k : ℕ) (xs : List ℕ) → Each (λ x. f (build A h g up k (find up x)) ≡ τ (find up x)) xs
      → map f (map (λ m. build A h g up k (find up m)) xs) ≡ map τ xs
  map_image k [] e = refl
  map_image k (x ∷ xs) e = let t = map_image k xs e.1 in let p = e.0 in let w = walk_keeps up τ linked x x in cc

  build_image : (k r : ℕ) → up r ≡ r → rank r < k → f (build A h g up k r) ≡ τ r
  build_image zero r e l = absurd (omega arith)
  build_image (suc k) r e l = go (g r) refl (λ x o. build_image k (find up x) (find_root up sound.down x) o)
    where
      go : (sh : Shape) → g r ≡ sh → ((x : ℕ) → rank (find up x) < k → f (build A h g up k (find up x)) ≡ τ (find up x))
          → f (put A (g r) (h r) (λ m. build A h g up k (find up m))) ≡ τ r
      go free q ih = rw q (f-free r q)
      go (atom a v) q ih = rw q (f-atom a v ∙ sym (values.atoms r a v q))
      go (app s ks) q ih = rw q (f-app s (map (λ m. build A h g up k (find up m)) ks)
          ∙ (ap (B.app_t s) (map_image k ks (each_map (λ x o. ih x (omega arith)) ks (ordered r s ks e q))) ∙ sym (values.apps r s ks q)))

  pub solution_image : (n : ℕ) → f (solution A h g up rank n) ≡ τ n
  solution_image n = build_image (suc (rank (find up n))) (find up n) (find_root up sound.down n) (omega arith) ∙ sym (walk_keeps up τ linked n n)
