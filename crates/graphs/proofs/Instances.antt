use Rattle.std.proofs.Common.{◌≡◌, ℕ, ◌+◌, ◌-◌, ◌<◌, ◌≤◌, List, [], ◌∷◌, map, sym, refl, ap, ◌∙◌, arith}
use Rattle.std.proofs.lemmas.List.{map-id}
use native.Mathlib.Decide.{dec_le}
use Rattle.graphs.specs.Terms.{Term, var, fun, more, KTerm, kfun, kmore, Subst, apply, applies, kinds, kinds*, pack, kpack, size, sizes, ksize, ksizes}
use Rattle.graphs.specs.Graph.{Shape, free, atom, app, Graph, Algebra, Each, Pair, find, Values, Stacked, Closed, Sound, Ordered}
use Rattle.graphs.specs.Meaning.{Live, AllLive, term_algebra, kind_algebra, Forward, same_node, value, decode, Unifies, Fits}
use Rattle.graphs.proofs.Walks.{each_map, map_each, walk_fixed}
use Rattle.graphs.proofs.Final.{solution_values, solution_image, solution_free}
use Rattle.graphs.proofs.Turns.{Laws}

pub pack_inj : (xs ys : List Term) → pack xs ≡ pack ys → xs ≡ ys
pack_inj [] [] e = refl
pack_inj [] (y ∷ ys) e = cc
pack_inj (x ∷ xs) [] e = cc
pack_inj (x ∷ xs) (y ∷ ys) e = let t = pack_inj xs ys (cc) in cc

pub kpack_inj : (xs ys : List KTerm) → kpack xs ≡ kpack ys → xs ≡ ys
kpack_inj [] [] e = refl
kpack_inj [] (y ∷ ys) e = cc
kpack_inj (x ∷ xs) [] e = cc
kpack_inj (x ∷ xs) (y ∷ ys) e = let t = kpack_inj xs ys (cc) in cc

pub sizes_each : (ρ : ℕ → Term) (ks : List ℕ) → Each (λ k. size (ρ k) ≤ sizes (pack (map ρ ks))) ks
sizes_each ρ [] = tt
sizes_each ρ (k ∷ ks) = (omega arith, each_map (λ x o. omega arith) ks (sizes_each ρ ks))

pub ksizes_each : (ρ : ℕ → KTerm) (ks : List ℕ) → Each (λ k. ksize (ρ k) ≤ ksizes (kpack (map ρ ks))) ks
ksizes_each ρ [] = tt
ksizes_each ρ (k ∷ ks) = (omega arith, each_map (λ x o. omega arith) ks (ksizes_each ρ ks))

abbrev pub term_laws : Laws term_algebra
term_laws = record {
  app_symbol = λ s t xs ys e. cc;
  app_parts = λ s t xs ys e. pack_inj xs ys (cc);
  app_atom = λ s f v xs e. let z : ◌≡◌ {A = ℕ} 0 1 = cc in omega arith;
  size = size;
  size_app = λ ρ s ks. each_map (λ x o. omega arith) ks (sizes_each ρ ks);
}

abbrev pub kind_laws : (kind : ℕ → ℕ → ℕ) → Laws (kind_algebra kind)
kind_laws kind = record {
  app_symbol = λ s t xs ys e. cc;
  app_parts = λ s t xs ys e. kpack_inj xs ys (cc);
  app_atom = λ s f v xs e. let z : ◌≡◌ {A = ℕ} 0 1 = cc in omega arith;
  size = ksize;
  size_app = λ ρ s ks. each_map (λ x o. omega arith) ks (ksizes_each ρ ks);
}

pub same_sound : (g : Graph) → Sound g same_node
same_sound g = record { down = λ n. omega arith; atom_root = λ n f v q. refl; app_link = λ n s ks q. (ks, q) }

pub same_closed : (A : Algebra) (g : Graph) (st : List Pair) → Closed A g same_node st
same_closed A g st n s ks ls a b ρ at sat = let i : ks ≡ ls = cc in ap (map ρ) i

find_same : (n : ℕ) → find same_node n ≡ n
find_same n = walk_fixed same_node n n refl

pub forward_ordered : (cap : ℕ) (g : Graph) → Forward cap g → Ordered g same_node (λ n. cap - n)
forward_ordered cap g fw r s ks e q = go (dec_le cap r)
  where
    go : Dec (cap ≤ r) → Each (λ k. cap - find same_node k < cap - r) ks
    go (yes l) = let f = fw.variables r l in let z : ◌≡◌ {A = ℕ} 0 1 = cc in absurd (omega arith)
    go (no l) = each_map (λ x o. let i = find_same x in rw i (omega arith)) ks (fw.arguments r s ks q)

pub applies_pack : (θ : Subst) (ts : List Term) → applies θ (pack ts) ≡ pack (map (apply θ) ts)
applies_pack θ [] = refl
applies_pack θ (t ∷ ts) = ap (more (apply θ t)) (applies_pack θ ts)

pub kinds*_pack : (kind : ℕ → ℕ → ℕ) (κ : ℕ → KTerm) (ts : List Term) → kinds* kind κ (pack ts) ≡ kpack (map (kinds kind κ) ts)
kinds*_pack kind κ [] = refl
kinds*_pack kind κ (t ∷ ts) = ap (kmore (kinds kind κ t)) (kinds*_pack kind κ ts)

module _ (cap : ℕ) (g : Graph) (fw : Forward cap g) where
  pub value_values : (A : Algebra) (θ : ℕ → A.T) → Values A g (value A cap g θ)
  value_values A θ = solution_values A (λ n. θ (n - cap)) g same_node (λ n. cap - n) (same_sound g) (forward_ordered cap g fw) (same_closed A g [])

  pub value_free : (A : Algebra) (θ : ℕ → A.T) (n : ℕ) → g n ≡ free → value A cap g θ n ≡ θ (n - cap)
  value_free A θ n q = solution_free A (λ n. θ (n - cap)) g same_node (λ n. cap - n) (same_sound g) (forward_ordered cap g fw) n refl q

  -- the values are the term's images
  pub apply_decode : (θ : Subst) (n : ℕ) → apply θ (decode cap g n) ≡ value term_algebra cap g θ n
  apply_decode θ = solution_image term_algebra term_algebra (λ n. var (n - cap)) g same_node (λ n. cap - n) (same_sound g) (forward_ordered cap g fw)
      (apply θ) (λ a v. refl) (λ s ts. ap (fun s) (applies_pack θ ts)) (value term_algebra cap g θ) (value_values term_algebra θ) (λ n. refl)
      (λ r q. sym (value_free term_algebra θ r q))

  pub kinds_decode : (kind : ℕ → ℕ → ℕ) (κ : ℕ → KTerm) (n : ℕ) → kinds kind κ (decode cap g n) ≡ value (kind_algebra kind) cap g κ n
  kinds_decode kind κ = solution_image term_algebra (kind_algebra kind) (λ n. var (n - cap)) g same_node (λ n. cap - n) (same_sound g) (forward_ordered cap g fw)
      (kinds kind κ) (λ a v. refl) (λ s ts. ap (kfun s) (kinds*_pack kind κ ts)) (value (kind_algebra kind) cap g κ) (value_values (kind_algebra kind) κ) (λ n. refl)
      (λ r q. sym (value_free (kind_algebra kind) κ r q))

  pub unifies_stacked : (θ : Subst) (E : List Pair) → Unifies cap g θ E → Stacked term_algebra (value term_algebra cap g θ) E
  unifies_stacked θ [] u = tt
  unifies_stacked θ (p ∷ ps) u =
      (sym (apply_decode θ p.left) ∙ (u.0 ∙ apply_decode θ p.right), unifies_stacked θ ps u.1)

  pub stacked_unifies : (θ : Subst) (E : List Pair) → Stacked term_algebra (value term_algebra cap g θ) E → Unifies cap g θ E
  stacked_unifies θ [] u = tt
  stacked_unifies θ (p ∷ ps) u =
      (apply_decode θ p.left ∙ (u.0 ∙ sym (apply_decode θ p.right)), stacked_unifies θ ps u.1)

  pub fits_stacked : (kind : ℕ → ℕ → ℕ) (κ : ℕ → KTerm) (E : List Pair) → Fits kind cap g κ E → Stacked (kind_algebra kind) (value (kind_algebra kind) cap g κ) E
  fits_stacked kind κ [] u = tt
  fits_stacked kind κ (p ∷ ps) u =
      (sym (kinds_decode kind κ p.left) ∙ (u.0 ∙ kinds_decode kind κ p.right), fits_stacked kind κ ps u.1)

  pub stacked_fits : (kind : ℕ → ℕ → ℕ) (κ : ℕ → KTerm) (E : List Pair) → Stacked (kind_algebra kind) (value (kind_algebra kind) cap g κ) E → Fits kind cap g κ E
  stacked_fits kind κ [] u = tt
  stacked_fits kind κ (p ∷ ps) u =
      (kinds_decode kind κ p.left ∙ (u.0 ∙ sym (kinds_decode kind κ p.right)), stacked_fits kind κ ps u.1)

  -- a valuation is the value of every live node under what it gives the variables
  module _ (A : Algebra) (ρ : ℕ → A.T) (val : Values A g ρ) where
    open A use {T, atom_t, app_t}

    at_variable : Shape → ℕ → T
    at_variable free n = ρ (cap + (n - cap))
    at_variable (atom f v) n = ρ n
    at_variable (app s ks) n = ρ n

    abbrev tidy : ℕ → T
    tidy n = at_variable (g n) n

    tidy_live : (n : ℕ) → Live cap g n → tidy n ≡ ρ n
    unfolding at_variable
    tidy_live n live = go (g n) refl
      where
        go : (sh : Shape) → g n ≡ sh → at_variable (g n) n ≡ ρ n
        go free q = let l = live q in let e : cap + (n - cap) ≡ n = omega arith in rw q (ap ρ e)
        go (atom f v) q = rw q
        go (app s ks) q = rw q

    tidy_values : Values A g tidy
    unfolding at_variable
    tidy_values = record {
      atoms = λ n f v q. rw q (val.atoms n f v q);
      apps = λ n s ks q. rw q (val.apps n s ks q ∙ ap (app_t s) (map_each ρ tidy ks (each_map (λ x o. sym (tidy_live x o.1)) ks (fw.arguments n s ks q))));
    }

    pub values_live : (n : ℕ) → Live cap g n → value A cap g (λ v. ρ (cap + v)) n ≡ ρ n
    unfolding at_variable
    values_live n live = solution_image A A (λ n. ρ (cap + (n - cap))) g same_node (λ n. cap - n) (same_sound g) (forward_ordered cap g fw)
        (λ t. t) (λ a v. refl) (λ s ts. ap (app_t s) (sym (map-id ts))) tidy tidy_values (λ n. refl) (λ r q. rw q) n ∙ tidy_live n live

    pub stacked_live : (E : List Pair) → AllLive cap g E → Stacked A ρ E → Stacked A (value A cap g (λ v. ρ (cap + v))) E
    stacked_live [] live e = tt
    stacked_live (p ∷ ps) live e =
        (values_live p.left live.0 ∙ (e.0 ∙ sym (values_live p.right live.1)), stacked_live ps live.2 e.1)
