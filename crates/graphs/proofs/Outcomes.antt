use Rattle.std.proofs.Common.{◌≡◌, ℕ, zero, suc, ◌+◌, ◌-◌, ◌<◌, ◌≤◌, Bool, true, false, eqb, ◌≢◌, ◌⊎◌, List, [], ◌∷◌, map, length, get_or, sym, refl, ap, ◌∙◌, subst, inl, inr, arith}
use native.Mathlib.Decide.{ℕ_discrete}
use Rattle.terms.specs.declared.Cell.{Cell}
use Rattle.graphs.specs.declared.Pair.{Pair}
use Rattle.graphs.specs.Terms.{KTerm}
use Rattle.graphs.specs.Graph.{Shape, free, atom, app, Graph, Each, Values, Stacked, Sound, Ordered, find}
use Rattle.graphs.specs.Links.{up_of, counted, restore}
use Rattle.graphs.specs.Meaning.{kind_algebra, number_of, number, Going, AllLive, NoKinds, KindsOnly, MostGeneral, answer}
use Rattle.graphs.specs.Cells.{blank, node_at, graph}
use Rattle.graphs.specs.Search.{order_of, zeros, Searching, Cyclic, Finished, Enclosed, SweepingFrom, StillAcyclic}
use Rattle.graphs.specs.Answer.{Lowest}
use Rattle.graphs.specs.Terms.{Term, var, con, fun, pack}
use Rattle.graphs.specs.Graph.{build, put}
use Rattle.graphs.specs.Meaning.{term_algebra, Live}
use Rattle.graphs.proofs.Walks.{each_map, find_root, find_up, walk_le, walk_fixed}
use Rattle.graphs.proofs.Lists.{restore_down, restore_member}
use Rattle.graphs.proofs.CellLaws.{app_inside}
use Rattle.graphs.proofs.Arena.{app_tag, cells_forward}
use Rattle.graphs.proofs.Loop.{walk_alive, wrong_from, false_from, solved_from}
use Rattle.graphs.proofs.Searches.{number_app, number_later, number_done, progress_number}

zeros_le : (o : List ℕ) → zeros o ≤ length o
zeros_le [] = omega arith
zeros_le (x ∷ xs) = let h = zeros_le xs in let c = one (eqb x 0) in omega arith
  where
    one : (t : Bool) → counted t 1 ≤ 1
    one true = omega arith
    one false = omega arith

module _ (cs : List Cell) (l : List ℕ) where
  pub sweep_state : (o : List ℕ) → length cs ≤ 1568 → ((n : ℕ) → up_of l n ≤ n) → ((p : ℕ) → node_at cs p < length l) → length cs ≤ length o → length o ≤ 50000 → ((k : ℕ) → get_or o k 0 ≡ 0) → Searching cs l o 3
  sweep_state o small down named wide narrow clean =
      let z = zeros_le o in
      record {
        small = small;
        down = down;
        named = named;
        wide = wide;
        visited = λ r s ks q h. absurd (let c = clean r in omega arith);
        early = omega arith;
        later = λ n. let c = clean n in omega arith;
        count = omega arith;
      }

  module _ (nodes : List ℕ) where
    pub sweep_start : (o : List ℕ) → Searching cs l o 3 → ((k : ℕ) → get_or o k 0 ≡ 0) → SweepingFrom cs l nodes o 3 0
    sweep_start o state clean = record
        { state = state; closed = λ k e. let c = clean k in omega arith; solid = λ k e. let c = clean k in omega arith; done = λ k h i. absurd (omega arith) }

    module _ (o : List ℕ) (time n : ℕ) (sw : SweepingFrom cs l nodes o time n) where
      -- one node on
      module _ (o' : List ℕ) (old : (m : ℕ) → 2 ≤ number (graph cs) (order_of o) m → 2 ≤ number (graph cs) (order_of o') m)
          (new : get_or nodes n 0 < length l → 2 ≤ number (graph cs) (order_of o') (find (up_of l) (get_or nodes n 0))) where
        one_more : (k : ℕ) → k < n + 1 → get_or nodes k 0 < length l → 2 ≤ number (graph cs) (order_of o') (find (up_of l) (get_or nodes k 0))
        one_more k h i = go (ℕ_discrete k n)
          where
            go : Dec (k ≡ n) → 2 ≤ number (graph cs) (order_of o') (find (up_of l) (get_or nodes k 0))
            go (yes e) = subst (λ m. 2 ≤ number (graph cs) (order_of o') (find (up_of l) (get_or nodes m 0))) (sym e) (new (subst (λ m. get_or nodes m 0 < length l) e i))
            go (no e) = old (find (up_of l) (get_or nodes k 0)) (sw.done k (omega arith) i)

      -- a node past the end has no link
      pub sweep_past : length l ≤ get_or nodes n 0 → SweepingFrom cs l nodes o time (n + 1)
      sweep_past h = record { state = sw.state; closed = sw.closed; solid = sw.solid; done = one_more o (λ m d. d) (λ i. absurd (omega arith)) }

      module _ (r : ℕ) (re : r ≡ find (up_of l) (get_or nodes n 0)) where
        pub sweep_numbered : number (graph cs) (order_of o) r ≢ 0 → SweepingFrom cs l nodes o time (n + 1)
        sweep_numbered ne = record {
          state = sw.state;
          closed = sw.closed;
          solid = sw.solid;
          done = one_more o (λ m d. d) (λ i. subst (λ m. 2 ≤ number (graph cs) (order_of o) m) re (go (graph cs r) refl));
        }
          where
            go : (sh : Shape) → graph cs r ≡ sh → 2 ≤ number (graph cs) (order_of o) r
            go free e = let z : number (graph cs) (order_of o) r ≡ 2 = ap (λ s. number_of s (get_or o r 0)) e in omega arith
            go (atom f v) e = let z : number (graph cs) (order_of o) r ≡ 2 = ap (λ s. number_of s (get_or o r 0)) e in omega arith
            go (app s ks) e =
                let z : number (graph cs) (order_of o) r ≡ get_or o r 0 = ap (λ s. number_of s (get_or o r 0)) e in
                let a = sw.closed r in omega arith

        pub sweep_visited : (o' : List ℕ) (t : ℕ) → Finished cs l o time r o' t → SweepingFrom cs l nodes o' t (n + 1)
        sweep_visited o' t f = record {
          state = f.state;
          closed = λ k e. low k 1 (sw.closed k) (omega arith) e (f.progress k);
          solid = λ k e. low k 2 (sw.solid k) (omega arith) e (f.progress k);
          done = one_more o' (λ m d. progress_number (graph cs) o o' m f.progress d)
              (λ i. subst (λ m. 2 ≤ number (graph cs) (order_of o') m) re (number_done (graph cs) (order_of o') r (let d = f.done in omega arith)));
        }
          where
            low : (k x : ℕ) → get_or o k 0 ≢ x → x < 3 → get_or o' k 0 ≡ x → (get_or o' k 0 ≡ get_or o k 0) ⊎ ((get_or o k 0 ≡ 0) × (3 ≤ get_or o' k 0)) → ⊥
            low k x ne h e (inl i) = ne (sym i ∙ e)
            low k x ne h e (inr w) = let a = w.1 in omega arith

      pub sweep_inside : (r : ℕ) → Enclosed cs l o r
      sweep_inside r kind ρ val lk x e = absurd (sw.closed x e)

      pub sweep_new : (r : ℕ) → number (graph cs) (order_of o) r ≡ 0 → (get_or o r 0 ≡ 0) × ((r < length cs) × (((get_or cs r blank).tag ≡ 2) × Enclosed cs l o r))
      sweep_new r e =
          let w = number_app (graph cs) (order_of o) r (omega arith) in
          (w.1.1.1 ∙ e, (app_inside cs r w.0 w.1.0 w.1.1.0, (app_tag cs sw.state.small r w.0 w.1.0 w.1.1.0, sweep_inside r)))

      -- a cycle that was not there before passes through a new link
      module _ (all : length nodes ≤ n) (rank : ℕ → ℕ) (ordered : Ordered (graph cs) (up_of (restore l nodes)) rank) where
        abbrev g : Graph
        g = graph cs

        abbrev up : ℕ → ℕ
        up = up_of l

        abbrev was : ℕ → ℕ
        was = up_of (restore l nodes)

        -- a node's link is old, or its root is finished
        link_was : (k : ℕ) → (was k ≡ up k) ⊎ (2 ≤ number g (order_of o) (find up k))
        link_was k = go (restore_member l nodes k)
          where
            go : ((i : ℕ) × ((i < length nodes) × ((get_or nodes i 0 ≡ k) × (k < length l)))) ⊎ (was k ≡ up k) → (was k ≡ up k) ⊎ (2 ≤ number g (order_of o) (find up k))
            go (inr e) = inl e
            go (inl w) =
                let e = w.1.1.0 in
                inr (subst (λ m. 2 ≤ number g (order_of o) (find up m)) e (sw.done w.0 (let h = w.1.0 in omega arith) (let h = w.1.1.1 in omega arith)))

        -- and so is its root
        root_below : (b k : ℕ) → k < b → (find was k ≡ find up k) ⊎ (2 ≤ number g (order_of o) (find up k))
        root_below zero k h = absurd (omega arith)
        root_below (suc b) k h = go (link_was k) (ℕ_discrete (up k) k) (λ i. root_below b (up k) i)
          where
            go : (was k ≡ up k) ⊎ (2 ≤ number g (order_of o) (find up k)) → Dec (up k ≡ k)
                → (up k < b → (find was (up k) ≡ find up (up k)) ⊎ (2 ≤ number g (order_of o) (find up (up k))))
                → (find was k ≡ find up k) ⊎ (2 ≤ number g (order_of o) (find up k))
            go (inr d) x ih = inr d
            go (inl e) (yes i) ih = inl (walk_fixed was k k (e ∙ i) ∙ sym (walk_fixed up k k i))
            go (inl e) (no i) ih = next (ih (let d = sw.state.down k in omega arith))
              where
                here : find up (up k) ≡ find up k
                here = find_up up sw.state.down k

                next : (find was (up k) ≡ find up (up k)) ⊎ (2 ≤ number g (order_of o) (find up (up k))) → (find was k ≡ find up k) ⊎ (2 ≤ number g (order_of o) (find up k))
                next (inl j) = inl (sym (find_up was (restore_down l nodes sw.state.down) k) ∙ (ap (find was) e ∙ (j ∙ here)))
                next (inr d) = inr (subst (λ m. 2 ≤ number g (order_of o) m) here d)

        -- what is not numbered comes after all that is
        abbrev place : ℕ → ℕ → ℕ
        place zero y = y
        place (suc x) y = suc x

        abbrev rank' : ℕ → ℕ
        rank' m = number_of (g m) (place (get_or o m 0) (time + rank m))

        placed : (x y : ℕ) → 1 ≤ x → place x y ≡ x
        placed zero y h = absurd (omega arith)
        placed (suc x) y h = refl

        rank_done : (m : ℕ) → 2 ≤ number g (order_of o) m → rank' m ≡ number g (order_of o) m
        rank_done m d = go (g m) refl
          where
            go : (sh : Shape) → g m ≡ sh → rank' m ≡ number g (order_of o) m
            go free e = rw e
            go (atom f v) e = rw e
            go (app s ks) e =
                let z : number g (order_of o) m ≡ get_or o m 0 = ap (λ s. number_of s (get_or o m 0)) e in
                ap (number_of (g m)) (placed (get_or o m 0) (time + rank m) (omega arith))

        rank_new : (m b : ℕ) → rank m < b → rank' m < time + b
        rank_new m b h = go (g m) refl
          where
            at : (x : ℕ) → x < time → place x (time + rank m) < time + b
            at zero i = omega arith
            at (suc x) i = omega arith

            go : (sh : Shape) → g m ≡ sh → rank' m < time + b
            go free e = let t = sw.state.early in let z : rank' m ≡ 2 = ap (λ s. number_of s (place (get_or o m 0) (time + rank m))) e in omega arith
            go (atom f v) e = let t = sw.state.early in let z : rank' m ≡ 2 = ap (λ s. number_of s (place (get_or o m 0) (time + rank m))) e in omega arith
            go (app s ks) e =
                let z : rank' m ≡ place (get_or o m 0) (time + rank m) = ap (λ s. number_of s (place (get_or o m 0) (time + rank m))) e in
                let i = at (get_or o m 0) (sw.state.later m) in omega arith

        sweep_ordered : Ordered g up rank'
        sweep_ordered r s ks root e = go (ℕ_discrete (get_or o r 0) 0)
          where
            here : rank' r ≡ place (get_or o r 0) (time + rank r)
            here = ap (λ sh. number_of sh (place (get_or o r 0) (time + rank r))) e

            mine : number g (order_of o) r ≡ get_or o r 0
            mine = ap (λ sh. number_of sh (get_or o r 0)) e

            old-root : get_or o r 0 ≡ 0 → (was r ≡ up r) ⊎ (2 ≤ number g (order_of o) (find up r)) → was r ≡ r
            old-root z (inl i) = i ∙ root
            old-root z (inr d) = absurd (let f = ap (number g (order_of o)) (walk_fixed up r r root) in let i = mine in omega arith)

            kid : (k : ℕ) → (find was k ≡ find up k) ⊎ (2 ≤ number g (order_of o) (find up k)) → rank (find was k) < rank r → rank' (find up k) < time + rank r
            kid k (inl i) h = rank_new (find up k) (rank r) (subst (λ m. rank m < rank r) i h)
            kid k (inr d) h =
                let a = rank_done (find up k) d in
                let b = number_later g (order_of o) (find up k) time sw.state.early (sw.state.later (find up k)) in omega arith

            go : Dec (get_or o r 0 ≡ 0) → Each (λ k. rank' (find up k) < rank' r) ks
            go (yes z) =
                let t : rank' r ≡ time + rank r = here ∙ ap (λ x. place x (time + rank r)) z in
                each_map (λ k h. let i = kid k (root_below (suc k) k (omega arith)) h in omega arith) ks (ordered r s ks (old-root z (link_was r)) e)
            go (no z) =
                let a = sw.closed r in let b = sw.solid r in
                let t : rank' r ≡ get_or o r 0 = here ∙ placed (get_or o r 0) (time + rank r) (omega arith) in
                each_map (λ k h. let i = rank_done (find up k) h.0 in let j = h.1 in omega arith) ks (sw.state.visited r s ks e (omega arith))

      pub sweep_end : length nodes ≤ n → StillAcyclic cs l nodes true
      sweep_end all order = (rank' all order.0 order.1, sweep_ordered all order.0 order.1)

-- the solved form names the lowest variable of those tied together
module _ (cs : List Cell) (small : length cs ≤ 1568) (l : List ℕ) (rank : ℕ → ℕ) (sound : Sound (graph cs) (up_of l)) (tied : (k : ℕ) → Live 1568 (graph cs) k → Live 1568 (graph cs) (up_of l k))
    (ordered : Ordered (graph cs) (up_of l) rank) where
  answer_root : (v u : ℕ) → answer 1568 (graph cs) (up_of l) rank v ≡ var u → find (up_of l) (1568 + v) ≡ 1568 + u
  answer_root v u e = go (graph cs (find (up_of l) (1568 + v))) refl
    where
      alive : Live 1568 (graph cs) (find (up_of l) (1568 + v))
      alive = walk_alive (graph cs) (up_of l) tied (1568 + v) (1568 + v) (λ _. omega arith)

      go : (sh : Shape) → graph cs (find (up_of l) (1568 + v)) ≡ sh → find (up_of l) (1568 + v) ≡ 1568 + u
      go free q =
          let i : answer 1568 (graph cs) (up_of l) rank v ≡ var (find (up_of l) (1568 + v) - 1568) = rw q in
          let j : var (find (up_of l) (1568 + v) - 1568) ≡ var u = sym i ∙ e in
          let k : find (up_of l) (1568 + v) - 1568 ≡ u = cc in
          let a = alive q in omega arith
      go (atom f w) q =
          let i : answer 1568 (graph cs) (up_of l) rank v ≡ con f w = rw q in
          let j : con f w ≡ var u = sym i ∙ e in let z : ◌≡◌ {A = ℕ} 0 1 = cc in absurd (omega arith)
      go (app s ks) q =
          let r = find (up_of l) (1568 + v) in
          let h : ℕ → Term = λ m. build term_algebra (λ n. var (n - 1568)) (graph cs) (up_of l) (rank r) (find (up_of l) m) in
          let i : answer 1568 (graph cs) (up_of l) rank v ≡ fun s (pack (map h ks)) = ap (λ sh. put term_algebra sh (var (r - 1568)) h) q in
          let j : fun s (pack (map h ks)) ≡ var u = sym i ∙ e in let z : ◌≡◌ {A = ℕ} 0 1 = cc in absurd (omega arith)

  pub answer_lowest : Lowest (answer 1568 (graph cs) (up_of l) rank)
  answer_lowest = record {
    itself = λ v u e.
        let i = answer_root v u e in
        let f = find_root (up_of l) sound.down (1568 + v) in
        let t : up_of l (1568 + u) ≡ 1568 + u = subst (λ m. up_of l m ≡ m) i f in
        let k : find (up_of l) (1568 + u) ≡ find (up_of l) (1568 + v) = walk_fixed (up_of l) (1568 + u) (1568 + u) t ∙ sym i in
        ap (λ m. build term_algebra (λ n. var (n - 1568)) (graph cs) (up_of l) (suc (rank m)) m) k ∙ e;
    least = λ v u e. let i = answer_root v u e in let d = walk_le (up_of l) sound.down (1568 + v) (1568 + v) in omega arith;
  }

-- the outcomes
module _ (kind : ℕ → ℕ → ℕ) (cs : List Cell) (small : length cs ≤ 1568) (E : List Pair) (live : AllLive 1568 (graph cs) E) where
  pub told_lost : ((ρ : ℕ → KTerm) → Values (kind_algebra kind) (graph cs) ρ → ¬ Stacked (kind_algebra kind) ρ E) → NoKinds kind 1568 (graph cs) E
  told_lost never = wrong_from kind (graph cs) E 1568 (cells_forward cs small) live never

  module _ (flag : Bool) (l : List ℕ) (going : Going kind (graph cs) E flag (up_of l) []) where
    pub told_cyclic : Cyclic cs l → NoKinds kind 1568 (graph cs) E
    told_cyclic cyc = told_lost (λ ρ val d. cyc kind ρ val ((going.on_kinds.same ρ val).1 d).linked)

    module _ (rank : ℕ → ℕ) (ordered : Ordered (graph cs) (up_of l) rank) where
      pub told_solved : flag ≡ true → MostGeneral 1568 (graph cs) E (answer 1568 (graph cs) (up_of l) rank)
      told_solved e = solved_from kind (graph cs) E 1568 (cells_forward cs small) live flag (up_of l) rank going ordered e

      pub told_false : flag ≡ false → KindsOnly kind 1568 (graph cs) E
      told_false e = false_from kind (graph cs) E 1568 (cells_forward cs small) live flag (up_of l) rank going ordered e
