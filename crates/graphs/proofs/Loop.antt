use Rattle.std.proofs.Common.{◌≡◌, ℕ, zero, suc, ◌+◌, ◌-◌, ◌<◌, ◌≤◌, Bool, true, false, ◌≢◌, List, [], ◌∷◌, map, length, sym, refl, ap, ◌∙◌, subst, inl, inr, arith}
use lib.ListN.{length-map}
use native.Mathlib.Decide.{ℕ_discrete}
use Rattle.graphs.specs.Terms.{Term, var, con, fun, KTerm, base, apply}
use Rattle.graphs.specs.Graph.{free, atom, app, Graph, Pair, onto, walk, Values, Stacked, Sound, Linked, Ordered, Tie, solution}
use Rattle.graphs.specs.Meaning.{term_algebra, kind_algebra, arena, Forward, Live, AllLive, same_node, value, Fits, answer, MostGeneral, NoKinds, KindsOnly, Going}
use Rattle.graphs.proofs.Final.{solution_values, solution_image, solution_sat}
use Rattle.graphs.proofs.Turns.{drop_turn, clash_turn, free_turn, app_turn, tie_back}
use Rattle.graphs.proofs.Instances.{term_laws, kind_laws, same_sound, same_closed, value_values, value_free, unifies_stacked, stacked_unifies, fits_stacked, stacked_fits, stacked_live, applies_pack}

-- how the links keep their shape
pub free_sound : (g : Graph) (up up' : ℕ → ℕ) (r q : ℕ) → Sound g up → Linked up r q up' → q ≤ r → g r ≡ free → Sound g up'
free_sound g up up' r q sound link l f = record {
  down = λ n. go-down n (ℕ_discrete n r);
  atom_root = λ n a v e. link.else n (λ i. let h : g r ≡ atom a v = cc in let z : ◌≡◌ {A = ℕ} 0 1 = cc in omega arith) ∙ sound.atom_root n a v e;
  app_link = λ n s ks e. let o = link.else n (λ i. let h : g r ≡ app s ks = cc in let z : ◌≡◌ {A = ℕ} 0 1 = cc in omega arith) in
      let w = sound.app_link n s ks e in (w.0, subst (λ m. g m ≡ app s w.0) (sym o) w.1);
}
  where
    go-down : (n : ℕ) → Dec (n ≡ r) → up' n ≤ n
    go-down n (yes i) = let h = link.here in rw (i, h) l
    go-down n (no i) = rw (link.else n i) (sound.down n)

pub app_sound : (g : Graph) (up up' : ℕ → ℕ) (r q s : ℕ) (ks ls : List ℕ) → Sound g up → Linked up r q up' → q ≤ r → g r ≡ app s ks → g q ≡ app s ls → Sound g up'
app_sound g up up' r q s ks ls sound link l a b = record {
  down = λ n. go-down n (ℕ_discrete n r);
  atom_root = λ n c v e. link.else n (λ i. let h : g r ≡ atom c v = cc in let z : ◌≡◌ {A = ℕ} 0 1 = cc in omega arith) ∙ sound.atom_root n c v e;
  app_link = λ n t ms e. go-app n t ms e (ℕ_discrete n r);
}
  where
    go-down : (n : ℕ) → Dec (n ≡ r) → up' n ≤ n
    go-down n (yes i) = let h = link.here in rw (i, h) l
    go-down n (no i) = rw (link.else n i) (sound.down n)

    go-app : (n t : ℕ) (ms : List ℕ) → g n ≡ app t ms → Dec (n ≡ r) → (os : List ℕ) × (g (up' n) ≡ app t os)
    go-app n t ms e (yes i) = let h = link.here in let j : s ≡ t = cc in (ls, cc)
    go-app n t ms e (no i) = let w = sound.app_link n t ms e in (w.0, subst (λ m. g m ≡ app t w.0) (sym (link.else n i)) w.1)

-- links between live nodes lead to live nodes
pub walk_alive : (g : Graph) (up : ℕ → ℕ) → ((k : ℕ) → Live arena g k → Live arena g (up k)) → (k n : ℕ) → Live arena g n → Live arena g (walk up k n)
walk_alive g up tied zero n a = a
walk_alive g up tied (suc k) n a = walk_alive g up tied k (up n) (tied n a)

module _ (kind : ℕ → ℕ → ℕ) (g : Graph) (E : List Pair) where
  -- the start
  pub going_start : Going kind g E true same_node E
  going_start = record {
    sound = same_sound g;
    tied = λ k a. a;
    bare = λ k a b. refl;
    on_kinds = record { closed = same_closed (kind_algebra kind) g E; same = λ ρ val. (λ s. s.stacked, λ d. record { linked = λ n. refl; stacked = d }) };
    on_terms = λ _. record { closed = same_closed term_algebra g E; same = λ ρ val. (λ s. s.stacked, λ d. record { linked = λ n. refl; stacked = d }) };
    dead = λ e. let z : ◌≡◌ {A = ℕ} 0 1 = cc in absurd (omega arith);
  }

  module _ (flag : Bool) (up : ℕ → ℕ) (st : List Pair) (p : Pair) (going : Going kind g E flag up (p ∷ st)) (r q : ℕ) (tie : Tie up p r q) where
    -- one root
    pub same_turn : r ≡ q → Going kind g E flag up st
    same_turn e = record {
      sound = going.sound;
      tied = going.tied;
      bare = going.bare;
      on_kinds = drop_turn (kind_algebra kind) g _ up st p going.on_kinds (λ ρ at l. tie_back (kind_algebra kind) up p r q tie ρ l (ap ρ e));
      on_terms = λ t. drop_turn term_algebra g _ up st p (going.on_terms t) (λ ρ at l. tie_back term_algebra up p r q tie ρ l (ap ρ e));
      dead = going.dead;
    }

    -- equal constants
    pub equal_turn : (f v : ℕ) → g r ≡ atom f v → g q ≡ atom f v → Going kind g E flag up st
    equal_turn f v a b = record {
      sound = going.sound;
      tied = going.tied;
      bare = going.bare;
      on_kinds = drop_turn (kind_algebra kind) g _ up st p going.on_kinds
          (λ ρ at l. tie_back (kind_algebra kind) up p r q tie ρ l (at r f v a ∙ sym (at q f v b)));
      on_terms = λ t. drop_turn term_algebra g _ up st p (going.on_terms t)
          (λ ρ at l. tie_back term_algebra up p r q tie ρ l (at r f v a ∙ sym (at q f v b)));
      dead = going.dead;
    }

    -- unequal constants of one kind
    pub unequal_turn : (f v f' v' : ℕ) → g r ≡ atom f v → g q ≡ atom f' v' → kind f v ≡ kind f' v' → ¬ ((f ≡ f') × (v ≡ v')) → Going kind g E false up st
    unequal_turn f v f' v' a b k apart = record {
      sound = going.sound;
      tied = going.tied;
      bare = going.bare;
      on_kinds = drop_turn (kind_algebra kind) g _ up st p going.on_kinds
          (λ ρ at l. tie_back (kind_algebra kind) up p r q tie ρ l (at r f v a ∙ (ap base k ∙ sym (at q f' v' b))));
      on_terms = λ e. let z : ◌≡◌ {A = ℕ} 0 1 = cc in absurd (omega arith);
      dead = λ _. none_left flag refl;
    }
      where
        none_left : (b : Bool) → flag ≡ b → (ρ : ℕ → Term) → Values term_algebra g ρ → ¬ Stacked term_algebra ρ E
        none_left false e = going.dead e
        none_left true e = clash_turn term_algebra g _ up st p (going.on_terms e) r q tie
            (λ ρ val i. let c = val.atoms r f v a in let d = val.atoms q f' v' b in let m : con f v ≡ con f' v' = cc in
            let m0 : f ≡ f' = cc in let m1 : v ≡ v' = cc in apart (m0, m1))

    -- constants of two kinds
    pub kinds_clash : (f v f' v' : ℕ) → g r ≡ atom f v → g q ≡ atom f' v' → kind f v ≢ kind f' v' → (ρ : ℕ → KTerm) → Values (kind_algebra kind) g ρ → ¬ Stacked (kind_algebra kind) ρ E
    kinds_clash f v f' v' a b apart = clash_turn (kind_algebra kind) g _ up st p going.on_kinds r q tie
        (λ ρ val i. let c = val.atoms r f v a in let d = val.atoms q f' v' b in let m : base (kind f v) ≡ base (kind f' v') = cc in apart (cc))

    -- a constant and a function, either way round
    pub atom_app_clash : (f v s : ℕ) (ks : List ℕ) → g r ≡ atom f v → g q ≡ app s ks → (ρ : ℕ → KTerm) → Values (kind_algebra kind) g ρ → ¬ Stacked (kind_algebra kind) ρ E
    atom_app_clash f v s ks a b = clash_turn (kind_algebra kind) g _ up st p going.on_kinds r q tie
        (λ ρ val i. (kind_laws kind).app_atom s f v (map ρ ks) (sym (val.apps q s ks b) ∙ (sym i ∙ val.atoms r f v a)))

    pub app_atom_clash : (f v s : ℕ) (ks : List ℕ) → g q ≡ atom f v → g r ≡ app s ks → (ρ : ℕ → KTerm) → Values (kind_algebra kind) g ρ → ¬ Stacked (kind_algebra kind) ρ E
    app_atom_clash f v s ks a b = clash_turn (kind_algebra kind) g _ up st p going.on_kinds r q tie
        (λ ρ val i. (kind_laws kind).app_atom s f v (map ρ ks) (sym (val.apps r s ks b) ∙ (i ∙ val.atoms q f v a)))

    -- two functions of two symbols or two arities
    pub app_clash : (s t : ℕ) (ks ls : List ℕ) → g r ≡ app s ks → g q ≡ app t ls → ¬ ((s ≡ t) × (length ks ≡ length ls)) → (ρ : ℕ → KTerm) → Values (kind_algebra kind) g ρ → ¬ Stacked (kind_algebra kind) ρ E
    app_clash s t ks ls a b apart = clash_turn (kind_algebra kind) g _ up st p going.on_kinds r q tie
        (λ ρ val i. let m = sym (val.apps r s ks a) ∙ (i ∙ val.apps q t ls b) in
        apart (
          (kind_laws kind).app_symbol s t (map ρ ks) (map ρ ls) m,
          sym (length-map ks ρ) ∙ (ap length ((kind_laws kind).app_parts s t (map ρ ks) (map ρ ls) m) ∙ length-map ls ρ),
        ))

    module _ (up' : ℕ → ℕ) (root : up r ≡ r) (link : Linked up r q up') (below : q ≤ r) (left : Live arena g p.left) (right : Live arena g p.right) where
      upper : Tie up p r q → Live arena g r
      upper (inl t) = subst (Live arena g) (sym t.0) (walk_alive g up going.tied p.left p.left left)
      upper (inr t) = subst (Live arena g) (sym t.0) (walk_alive g up going.tied p.right p.right right)

      bare' : (k : ℕ) → g k ≡ free → k < arena → up' k ≡ k
      bare' k f b = link.else k (λ i. let u = upper tie (subst (λ m. g m ≡ free) i f) in omega arith) ∙ going.bare k f b

      lower : Tie up p r q → Live arena g q
      lower (inl t) = subst (Live arena g) (sym t.1) (walk_alive g up going.tied p.right p.right right)
      lower (inr t) = subst (Live arena g) (sym t.1) (walk_alive g up going.tied p.left p.left left)

      tied' : (k : ℕ) → Live arena g k → Live arena g (up' k)
      tied' k a = at (ℕ_discrete k r)
        where
          at : Dec (k ≡ r) → Live arena g (up' k)
          at (yes i) = subst (Live arena g) (sym (ap up' i ∙ link.here)) (lower tie)
          at (no i) = subst (Live arena g) (sym (link.else k i)) (going.tied k a)

      -- a variable against any other root
      pub variable_turn : g r ≡ free → Going kind g E flag up' st
      variable_turn f = record {
        sound = free_sound g up up' r q going.sound link below f;
        tied = tied';
        bare = bare';
        on_kinds = (free_turn (kind_algebra kind) g _ up st p going.on_kinds up' r q tie root link f);
        on_terms = λ t. (free_turn term_algebra g _ up st p (going.on_terms t) up' r q tie root link f);
        dead = going.dead;
      }

      -- two functions of one symbol and arity
      pub function_turn : (s : ℕ) (ks ls : List ℕ) → g r ≡ app s ks → g q ≡ app s ls → length ks ≡ length ls → Going kind g E flag up' (onto ks ls st)
      function_turn s ks ls a b len = record {
        sound = app_sound g up up' r q s ks ls going.sound link below a b;
        tied = tied';
        bare = bare';
        on_kinds = app_turn (kind_algebra kind) g _ up st p going.on_kinds up' r q tie root link (kind_laws kind) s ks ls a b len;
        on_terms = λ t. app_turn term_algebra g _ up st p (going.on_terms t) up' r q tie root link term_laws s ks ls a b len;
        dead = going.dead;
      }

  -- the end
  module _ (cap : ℕ) (fw : Forward cap g) (live : AllLive cap g E) where
    -- no valuation of kinds: wrong
    pub wrong_from : ((ρ : ℕ → KTerm) → Values (kind_algebra kind) g ρ → ¬ Stacked (kind_algebra kind) ρ E) → NoKinds kind cap g E
    wrong_from never κ fits = never (value (kind_algebra kind) cap g κ) (value_values cap g fw (kind_algebra kind) κ) (fits_stacked cap g fw kind κ E fits)

    module _ (flag : Bool) (up rank : ℕ → ℕ) (going : Going kind g E flag up []) (ordered : Ordered g up rank) where
      -- some kinds fit, whatever the flag
      pub fits_from : (κ : ℕ → KTerm) × Fits kind cap g κ E
      fits_from =
          let A = kind_algebra kind in
          let ρ = solution A (λ n. base 0) g up rank in
          let val = solution_values A (λ n. base 0) g up rank going.sound ordered going.on_kinds.closed in
          let sat = solution_sat A (λ n. base 0) g up rank going.sound ordered in
          ((λ v. ρ (cap + v)), stacked_fits cap g fw kind (λ v. ρ (cap + v)) E (stacked_live cap g fw A ρ val E live ((going.on_kinds.same ρ val).0 sat)))

      pub false_from : flag ≡ false → KindsOnly kind cap g E
      false_from e = record {
        fits = fits_from;
        none = λ θ u. going.dead e (value term_algebra cap g θ) (value_values cap g fw term_algebra θ) (unifies_stacked cap g fw θ E u);
      }

      pub solved_from : flag ≡ true → MostGeneral cap g E (answer cap g up rank)
      solved_from e =
          let A = term_algebra in
          let h : ℕ → Term = λ n. var (n - cap) in
          let ρ = solution A h g up rank in
          let S = going.on_terms e in
          let val = solution_values A h g up rank going.sound ordered S.closed in
          let sat = solution_sat A h g up rank going.sound ordered in
          record {
            unifies = stacked_unifies cap g fw (λ v. ρ (cap + v)) E (stacked_live cap g fw A ρ val E live ((S.same ρ val).0 sat));
            general = λ θ u v.
                let τ = value A cap g θ in
                let tv = value_values cap g fw A θ in
                let ts = (S.same τ tv).1 (unifies_stacked cap g fw θ E u) in
                let i = solution_image A A h g up rank going.sound ordered (apply θ) (λ a w. refl) (λ s ts. ap (fun s) (applies_pack θ ts)) τ tv ts.linked
                (λ r q. sym (value_free cap g fw A θ r q)) (cap + v) in
                let w = value_free cap g fw A θ (cap + v) (fw.variables (cap + v) (omega arith)) in
                let n : cap + v - cap ≡ v = omega arith in
                sym (i ∙ (w ∙ ap θ n));
          }
