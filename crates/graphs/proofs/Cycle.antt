use Rattle.std.proofs.Common.{◌≡◌, ℕ, ◌+◌, ◌<◌, ◌≤◌, Bool, ◌≢◌, List, [], ◌∷◌, sym, refl, ap, ◌∙◌, subst, arith}
use native.Mathlib.Decide.{ℕ_discrete}
use Rattle.graphs.specs.Terms.{KTerm, ksize}
use Rattle.graphs.specs.Graph.{Shape, free, atom, app, Graph, Each, Pair, find, Values, Stacked, Linked, Ordered, Acyclic}
use Rattle.graphs.specs.Meaning.{kind_algebra, Going, number_of, number, Before, Visited, Inside}
use Rattle.graphs.proofs.Walks.{each_map, walk_fixed, walk_keeps, find_root, find_up}
use Rattle.graphs.proofs.Instances.{kind_laws}

pub each_both : {P Q R : ℕ → Type 0} → ((x : ℕ) → P x → Q x → R x) → (xs : List ℕ) → Each P xs → Each Q xs → Each R xs
each_both f [] a b = tt
each_both f (x ∷ xs) a b = (f x a.0 b.0, each_both f xs a.1 b.1)

module _ (g : Graph) (up order order' : ℕ → ℕ) (r s x : ℕ) (ks : List ℕ) (q : g r ≡ app s ks) (low : order r ≤ 1) (link : Linked order r x order') where
  number_else : (n : ℕ) → 2 ≤ number g order n → number g order' n ≡ number g order n
  number_else n l = go (ℕ_discrete n r)
    where
      go : Dec (n ≡ r) → number g order' n ≡ number g order n
      go (yes i) = absurd (let z : number g order n ≡ order r = subst (λ m. number g order m ≡ order r) (sym i) (rw q) in omega arith)
      go (no i) = ap (number_of (g n)) (link.else n i)

  before_else : (y k : ℕ) → Before g up order y k → Before g up order' y k
  before_else y k b = let e = number_else (find up k) b.0 in (omega arith, omega arith)

  -- a root is opened
  pub visited_open : x ≡ 1 → Visited g up order → Visited g up order'
  visited_open one vis n t ls p l = go (ℕ_discrete n r)
    where
      go : Dec (n ≡ r) → Each (Before g up order' (order' n)) ls
      go (yes i) = absurd (let h = link.here in let j = ap order' i in omega arith)
      go (no i) = let o = link.else n i in rw o (each_map (λ k b. before_else (order n) k b) ls (vis n t ls p (omega arith)))

  -- a root is finished, all its arguments' roots being so
  pub visited_close : Each (Before g up order x) ks → Visited g up order → Visited g up order'
  visited_close all vis n t ls p l = go (ℕ_discrete n r)
    where
      go : Dec (n ≡ r) → Each (Before g up order' (order' n)) ls
      go (yes i) =
          let h : order' n ≡ x = ap order' i ∙ link.here in
          let j : ls ≡ ks = let p' = subst (λ m. g m ≡ app t ls) i p in cc in
          rw (h, j) (each_map (λ k b. before_else x k b) ks all)
      go (no i) = let o = link.else n i in rw o (each_map (λ k b. before_else (order n) k b) ls (vis n t ls p (omega arith)))

module _ (kind : ℕ → ℕ → ℕ) (g : Graph) (up : ℕ → ℕ) where
  -- an argument's root has a smaller kind term
  pub argument_smaller : (r s : ℕ) (ks : List ℕ) → g r ≡ app s ks → (ρ : ℕ → KTerm) → Values (kind_algebra kind) g ρ → ((n : ℕ) → ρ n ≡ ρ (up n))
      → Each (λ k. ksize (ρ (find up k)) < ksize (ρ r)) ks
  argument_smaller r s ks q ρ val l =
      each_map (λ k b. let w : ρ k ≡ ρ (find up k) = walk_keeps up ρ l k k in let e = val.apps r s ks q in let e' = ap ksize e in let w' = ap ksize w in omega arith)
      ks ((kind_laws kind).size_app ρ s ks)

  -- once r is open, each argument's root is inside
  pub inside_argument : (order order' : ℕ → ℕ) (r s : ℕ) (ks : List ℕ) → g r ≡ app s ks → Linked order r 1 order' → Inside kind g up order r
      → Each (λ k. Inside kind g up order' (find up k)) ks
  inside_argument order order' r s ks q link inside =
      each-swap ks (λ ρ val l. each_map (λ k b o e. go ρ val l k b o e (ℕ_discrete o r)) ks (argument_smaller r s ks q ρ val l))
    where
      go : (ρ : ℕ → KTerm) → Values (kind_algebra kind) g ρ → ((n : ℕ) → ρ n ≡ ρ (up n)) → (k : ℕ) → ksize (ρ (find up k)) < ksize (ρ r)
          → (o : ℕ) → order' o ≡ 1 → Dec (o ≡ r) → ksize (ρ (find up k)) < ksize (ρ o)
      go ρ val l k b o e (yes i) = let j = ap (λ m. ksize (ρ m)) i in omega arith
      go ρ val l k b o e (no i) = let j = inside ρ val l o (sym (link.else o i) ∙ e) in omega arith

      each-swap : (ls : List ℕ) → ((ρ : ℕ → KTerm) → Values (kind_algebra kind) g ρ → ((n : ℕ) → ρ n ≡ ρ (up n)) → Each (λ k. (o : ℕ) → order' o ≡ 1 → ksize (ρ (find up k)) < ksize (ρ o)) ls)
          → Each (λ k. Inside kind g up order' (find up k)) ls
      each-swap [] f = tt
      each-swap (k ∷ ls) f = ((λ ρ val l o e. (f ρ val l).0 o e), each-swap ls (λ ρ val l. (f ρ val l).1))

  -- an open root inside itself: nothing fits
  pub cycle_clash : (E : List Pair) (flag : Bool) → Going kind g E flag up [] → (order : ℕ → ℕ) (r : ℕ) → Inside kind g up order r → order r ≡ 1
      → (ρ : ℕ → KTerm) → Values (kind_algebra kind) g ρ → ¬ Stacked (kind_algebra kind) ρ E
  cycle_clash E flag going order r inside e ρ val d =
      let sat = (going.on_kinds.same ρ val).1 d in
      let z = inside ρ val sat.linked r e in omega arith

-- A variable's root that is linked to a root that is no application leaves all in order.
module _ (g : Graph) (up up' : ℕ → ℕ) (r q : ℕ) (down : (n : ℕ) → up n ≤ n) (link : Linked up r q up') (root : up r ≡ r) (lower : up q ≡ q) (below : q < r)
    (variable : g r ≡ free) (plain : (s : ℕ) (ks : List ℕ) → g q ≢ app s ks) (rank : ℕ → ℕ) (ordered : Ordered g up rank) where
  abbrev level : ℕ → ℕ
  level = number g (λ n. 3 + rank n)

  level_q : level q ≡ 2
  level_q = go (g q) refl
    where
      go : (sh : Shape) → g q ≡ sh → level q ≡ 2
      go free e = rw e
      go (atom f v) e = rw e
      go (app s ks) e = absurd (plain s ks e)

  level_same : (m : ℕ) → level (find up m) ≡ level (find up (up' m))
  level_same m = go (ℕ_discrete m r)
    where
      go : Dec (m ≡ r) → level (find up m) ≡ level (find up (up' m))
      go (yes i) =
          let a : find up m ≡ r = ap (find up) i ∙ walk_fixed up r r root in
          let b : find up (up' m) ≡ q = ap (find up) (ap up' i ∙ link.here) ∙ walk_fixed up q q lower in
          let c : level r ≡ 2 = rw variable in
          ap level a ∙ (c ∙ (sym level_q ∙ sym (ap level b)))
      go (no i) = ap level (sym (ap (find up) (link.else m i) ∙ find_up up down m))

  down' : (n : ℕ) → up' n ≤ n
  down' n = go (ℕ_discrete n r)
    where
      go : Dec (n ≡ r) → up' n ≤ n
      go (yes i) = let e = ap up' i ∙ link.here in omega arith
      go (no i) = let e = link.else n i in let d = down n in omega arith

  level_root : (k : ℕ) → level (find up' k) ≡ level (find up k)
  level_root k =
      let m = find up' k in
      let f = find_root up' down' k in
      let ne : find up' k ≢ r = λ i. let e = sym (ap up' i) ∙ (f ∙ i) in let h = link.here in omega arith in
      let u : up (find up' k) ≡ find up' k = sym (link.else (find up' k) ne) ∙ f in
      let w : level (find up k) ≡ level (find up (find up' k)) = walk_keeps up' (λ n. level (find up n)) level_same k k in
      sym (w ∙ ap level (walk_fixed up (find up' k) (find up' k) u))

  level_low : (n x : ℕ) → rank n < x → level n < 3 + x
  level_low n x h = go (g n) refl
    where
      go : (sh : Shape) → g n ≡ sh → level n < 3 + x
      go free e = rw e (omega arith)
      go (atom f v) e = rw e (omega arith)
      go (app s ks) e = rw e (omega arith)

  pub plain_acyclic : Acyclic g up'
  plain_acyclic = (
    level,
    λ n s ks e a.
        let ne : n ≢ r = λ i. let j : app s ks ≡ free = sym a ∙ (ap g i ∙ variable) in let z : ◌≡◌ {A = ℕ} 0 1 = cc in omega arith in
        let u : up n ≡ n = sym (link.else n ne) ∙ e in
        let here : level n ≡ 3 + rank n = ap (λ sh. number_of sh (3 + rank n)) a in
        each_map (λ k b. let l = level_root k in let o = level_low (find up k) (rank n) b in omega arith) ks (ordered n s ks u a),
  )
