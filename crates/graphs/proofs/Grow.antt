use Rattle.std.proofs.Common.{◌≡◌, ℕ, ◌+◌, ◌-◌, ◌≤◌, Bool, List, [], ◌++◌, map, sym, refl, ap, ◌∙◌, arith}
use mathlib.Core.Path.{fun_ext}
use Rattle.graphs.specs.Graph.{Shape, free, atom, app, Graph, Algebra, Pair, Atoms, Values, Stacked, Sat, Sound, Solves}
use Rattle.graphs.specs.Meaning.{term_algebra, kind_algebra, arena, Forward, Live, value, Going, Grows}
use Rattle.graphs.proofs.Turns.{stacked_append, stacked_left, stacked_right}
use Rattle.graphs.proofs.Instances.{value_values, value_free, values_live}

-- more equations are stacked on a solved system
pub push_solves : (A : Algebra) (g : Graph) (E F : List Pair) (up : ℕ → ℕ) → Solves A g (λ ρ. Stacked A ρ E) up [] → Solves A g (λ ρ. Stacked A ρ (E ++ F)) up F
push_solves A g E F up s = record {
  closed = λ n t ks ls a b ρ at sat. s.closed n t ks ls a b ρ at (record { linked = sat.linked; stacked = tt });
  same = λ ρ val. (
    (λ sat. stacked_append A ρ E F ((s.same ρ val).0 (record { linked = sat.linked; stacked = tt })) sat.stacked),
    (λ d. record { linked = ((s.same ρ val).1 (stacked_left A ρ E F d)).linked; stacked = stacked_right A ρ E F d }),
  );
}

pub going_push : (kind : ℕ → ℕ → ℕ) (g : Graph) (E F : List Pair) (flag : Bool) (up : ℕ → ℕ) → Going kind g E flag up [] → Going kind g (E ++ F) flag up F
going_push kind g E F flag up going = record {
  sound = going.sound;
  tied = going.tied;
  bare = going.bare;
  on_kinds = push_solves (kind_algebra kind) g E F up going.on_kinds;
  on_terms = λ t. push_solves term_algebra g E F up (going.on_terms t);
  dead = λ f ρ val d. going.dead f ρ val (stacked_left term_algebra ρ E F d);
}

-- cells are added
module _ (g g' : Graph) (up : ℕ → ℕ) (grows : Grows g g' up) where
  grow_atoms : (A : Algebra) (ρ : ℕ → A.T) → Atoms A g' ρ → Atoms A g ρ
  grow_atoms A ρ at n f v q = at n f v (grows.kept n (λ z. let i : atom f v ≡ free = sym q ∙ z in let o : ◌≡◌ {A = ℕ} 0 1 = cc in omega arith) ∙ q)

  grow_values : (A : Algebra) (ρ : ℕ → A.T) → Values A g' ρ → Values A g ρ
  grow_values A ρ val = record {
    atoms = grow_atoms A ρ val.atoms;
    apps = λ n s ks q. val.apps n s ks (grows.kept n (λ z. let i : app s ks ≡ free = sym q ∙ z in let o : ◌≡◌ {A = ℕ} 0 1 = cc in omega arith) ∙ q);
  }

  grow_sound : Sound g up → Sound g' up
  grow_sound s = record {
    down = s.down;
    atom_root = λ n f v q. at-root n f v q (g n) refl;
    app_link = λ n t ks q. at-app n t ks q (g n) refl;
  }
    where
      at-root : (n f v : ℕ) → g' n ≡ atom f v → (sh : Shape) → g n ≡ sh → up n ≡ n
      at-root n f v q free e = grows.fresh n e (λ z. let i : atom f v ≡ free = sym q ∙ z in let o : ◌≡◌ {A = ℕ} 0 1 = cc in omega arith)
      at-root n f v q (atom a w) e = s.atom_root n a w e
      at-root n f v q (app t ks) e = absurd (
          let k = grows.kept n (λ z. let i : app t ks ≡ free = sym e ∙ z in let o : ◌≡◌ {A = ℕ} 0 1 = cc in omega arith) in
          let i : atom f v ≡ app t ks = sym q ∙ (k ∙ e) in let o : ◌≡◌ {A = ℕ} 0 1 = cc in omega arith)

      at-app : (n t : ℕ) (ks : List ℕ) → g' n ≡ app t ks → (sh : Shape) → g n ≡ sh → (ls : List ℕ) × (g' (up n) ≡ app t ls)
      at-app n t ks q free e =
          let r = grows.fresh n e (λ z. let i : app t ks ≡ free = sym q ∙ z in let o : ◌≡◌ {A = ℕ} 0 1 = cc in omega arith) in (ks, ap g' r ∙ q)
      at-app n t ks q (atom a w) e = let r = s.atom_root n a w e in (ks, ap g' r ∙ q)
      at-app n t ks q (app u ms) e =
          let k = grows.kept n (λ z. let i : app u ms ≡ free = sym e ∙ z in let o : ◌≡◌ {A = ℕ} 0 1 = cc in omega arith) in
          let w = s.app_link n u ms e in
          let j : u ≡ t = let i : app u ms ≡ app t ks = sym (k ∙ e) ∙ q in cc in
          let m = grows.kept (up n) (λ z. let i : app u w.0 ≡ free = sym w.1 ∙ z in let o : ◌≡◌ {A = ℕ} 0 1 = cc in omega arith) in
          (w.0, m ∙ (w.1 ∙ ap (λ x. app x w.0) j))

  grow_solves : (A : Algebra) (E : List Pair) → Sound g up → Solves A g (λ ρ. Stacked A ρ E) up [] → Solves A g' (λ ρ. Stacked A ρ E) up []
  grow_solves A E sound s = record {
    closed = λ n t ks ls a b ρ at sat. go n t ks ls a b ρ at sat (g n) refl;
    same = λ ρ val. s.same ρ (grow_values A ρ val);
  }
    where
      alike : (n t : ℕ) (ks ls : List ℕ) → g' n ≡ app t ks → g' (up n) ≡ app t ls → up n ≡ n → (ρ : ℕ → A.T) → map ρ ks ≡ map ρ ls
      alike n t ks ls a b r ρ = let i : app t ks ≡ app t ls = sym a ∙ (ap g' (sym r) ∙ b) in let j : ks ≡ ls = cc in ap (map ρ) j

      go : (n t : ℕ) (ks ls : List ℕ) → g' n ≡ app t ks → g' (up n) ≡ app t ls → (ρ : ℕ → A.T) → Atoms A g' ρ → Sat A up [] ρ → (sh : Shape) → g n ≡ sh → map ρ ks ≡ map ρ ls
      go n t ks ls a b ρ at sat free e =
          alike n t ks ls a b (grows.fresh n e (λ z. let i : app t ks ≡ free = sym a ∙ z in let o : ◌≡◌ {A = ℕ} 0 1 = cc in omega arith)) ρ
      go n t ks ls a b ρ at sat (atom c w) e = alike n t ks ls a b (sound.atom_root n c w e) ρ
      go n t ks ls a b ρ at sat (app u ms) e =
          let k = grows.kept n (λ z. let i : app u ms ≡ free = sym e ∙ z in let o : ◌≡◌ {A = ℕ} 0 1 = cc in omega arith) in
          let w = sound.app_link n u ms e in
          let m = grows.kept (up n) (λ z. let i : app u w.0 ≡ free = sym w.1 ∙ z in let o : ◌≡◌ {A = ℕ} 0 1 = cc in omega arith) in
          s.closed n t ks ls (sym k ∙ a) (sym m ∙ b) ρ (grow_atoms A ρ at) sat

  was_free : (n : ℕ) → g' n ≡ free → g n ≡ free
  was_free n e = go (g n) refl
    where
      go : (sh : Shape) → g n ≡ sh → g n ≡ free
      go free q = q
      go (atom f v) q = absurd (let k = grows.kept n (λ z. let i : atom f v ≡ free = sym q ∙ z in let o : ◌≡◌ {A = ℕ} 0 1 = cc in omega arith) in
          let i : atom f v ≡ free = sym q ∙ (sym k ∙ e) in let o : ◌≡◌ {A = ℕ} 0 1 = cc in omega arith)
      go (app t ks) q = absurd (let k = grows.kept n (λ z. let i : app t ks ≡ free = sym q ∙ z in let o : ◌≡◌ {A = ℕ} 0 1 = cc in omega arith) in
          let i : app t ks ≡ free = sym q ∙ (sym k ∙ e) in let o : ◌≡◌ {A = ℕ} 0 1 = cc in omega arith)

  grow_tied : ((k : ℕ) → Live arena g k → Live arena g (up k)) → (k : ℕ) → Live arena g' k → Live arena g' (up k)
  grow_tied tied k a e = tied k (λ z. go z (g' k) refl) (was_free (up k) e)
    where
      go : g k ≡ free → (sh : Shape) → g' k ≡ sh → arena ≤ k
      go z free q = a q
      go z (atom f v) q =
          let r = grows.fresh k z (λ w. let i : atom f v ≡ free = sym q ∙ w in let o : ◌≡◌ {A = ℕ} 0 1 = cc in omega arith) in
          let i : atom f v ≡ free = sym q ∙ (ap g' (sym r) ∙ e) in let o : ◌≡◌ {A = ℕ} 0 1 = cc in absurd (omega arith)
      go z (app t ks) q =
          let r = grows.fresh k z (λ w. let i : app t ks ≡ free = sym q ∙ w in let o : ◌≡◌ {A = ℕ} 0 1 = cc in omega arith) in
          let i : app t ks ≡ free = sym q ∙ (ap g' (sym r) ∙ e) in let o : ◌≡◌ {A = ℕ} 0 1 = cc in absurd (omega arith)

  pub going_grow : (kind : ℕ → ℕ → ℕ) (E : List Pair) (flag : Bool) → Going kind g E flag up [] → Going kind g' E flag up []
  going_grow kind E flag going = record {
    sound = grow_sound going.sound;
    tied = grow_tied going.tied;
    bare = λ k f b. going.bare k (was_free k f) b;
    on_kinds = grow_solves (kind_algebra kind) E going.sound going.on_kinds;
    on_terms = λ t. grow_solves term_algebra E going.sound (going.on_terms t);
    dead = λ f ρ val. going.dead f ρ (grow_values term_algebra ρ val);
  }

  -- a live node's value is what it was
  pub grow_value : (A : Algebra) (cap : ℕ) → Forward cap g → Forward cap g' → (θ : ℕ → A.T) (n : ℕ) → Live cap g n → value A cap g' θ n ≡ value A cap g θ n
  grow_value A cap fw fw' θ n live =
      let ρ = value A cap g' θ in
      let val = grow_values A ρ (value_values cap g' fw' A θ) in
      let e : (λ v. ρ (cap + v)) ≡ θ = fun_ext (λ v. value_free cap g' fw' A θ (cap + v) (fw'.variables (cap + v) (omega arith)) ∙ (let z : cap + v - cap ≡ v = omega arith in ap θ z)) in
      sym (values_live cap g fw A ρ val n live) ∙ ap (λ t. value A cap g t n) e
