use Rattle.std.proofs.Common.{◌≡◌, ℕ, zero, suc, ◌+◌, ◌-◌, ◌<◌, ◌≤◌, true, cond, eqb, ltb, leb, ◌≢◌, List, [], ◌∷◌, ◌++◌, length, get_or, take, drop, sym, refl, ap, ◌∙◌, subst, arith}
use mathlib.Core.Path.{fun_ext}
use native.Mathlib.Decide.{dec_lt, ℕ_discrete}
use Rattle.std.proofs.lemmas.Bool.{and_parts, and_from, leb-true, ltb-true, eq-eqb, ne_eqb}
use Rattle.std.proofs.lemmas.List.{get_or_past, get_or-append-add, drop_at, get_or_append_left, drop-append-le, length-drop, length-append, drop-drop}
use Rattle.terms.specs.declared.Cell.{Cell}
use Rattle.graphs.specs.declared.Pair.{Pair}
use Rattle.graphs.specs.Graph.{Shape, free, atom, app, Each, find, Ordered, Acyclic}
use Rattle.graphs.specs.Links.{up_of, weight, roots}
use Rattle.graphs.specs.Meaning.{arena, Grows, Going, same_node, Live, AllLive}
use Rattle.graphs.specs.Cells.{blank, span, after, node_at, arguments, graph, arity_sh, owes, fits, all_fit}
use Rattle.graphs.specs.Whole.{left, Whole}
use Rattle.graphs.proofs.CellLaws.{graph_app, graph_atom, graph_free, arguments_length}
use Rattle.graphs.proofs.Arena.{app_arguments, cells_forward}
use Rattle.graphs.proofs.CellLaws.{app_inside}
use Rattle.graphs.proofs.Lists.{weight_bound}
use Rattle.graphs.proofs.Instances.{forward_ordered}
use Rattle.graphs.proofs.Loop.{going_start, walk_alive}
use Rattle.graphs.proofs.Walks.{each_map, walk_fixed}
use Rattle.graphs.proofs.Cycle.{each_both}

-- fewer terms leave no more
left_less : (xs : List Cell) (a b : ℕ) → left xs (a + b) ≡ 0 → left xs a ≡ 0
left_less [] a b e = omega arith
left_less (x ∷ xs) zero b e = refl
left_less (x ∷ xs) (suc a) b e =
    let z : suc a + b ≡ suc (a + b) = omega arith in
    let y : a + b + x.arity ≡ a + x.arity + b = omega arith in
    left_less xs (a + x.arity) b (sym (ap (left xs) y) ∙ (sym (ap (left (x ∷ xs)) z) ∙ e))

-- after the first a terms, b are left to read
left_after : (xs : List Cell) (a b : ℕ) → left xs (a + b) ≡ 0 → left (drop (span xs a) xs) b ≡ 0
left_after [] a b e = omega arith
left_after (x ∷ xs) zero b e = let z : 0 + b ≡ b = omega arith in sym (ap (left (x ∷ xs)) z) ∙ e
left_after (x ∷ xs) (suc a) b e =
    let z : suc a + b ≡ suc (a + b) = omega arith in
    let y : a + b + x.arity ≡ a + x.arity + b = omega arith in
    left_after xs (a + x.arity) b (sym (ap (left xs) y) ∙ (sym (ap (left (x ∷ xs)) z) ∙ e))

span_append : (xs ys : List Cell) (need : ℕ) → left xs need ≡ 0 → span (xs ++ ys) need ≡ span xs need
span_append [] ys need e = rw e (at_none ys)
  where
    at_none : (zs : List Cell) → span zs 0 ≡ 0
    at_none [] = refl
    at_none (z ∷ zs) = refl
span_append (x ∷ xs) ys zero e = refl
span_append (x ∷ xs) ys (suc need) e = ap suc (span_append xs ys (need + x.arity) e)

left_inside : (cs : List Cell) (q n : ℕ) → left (drop q cs) (suc n) ≡ 0 → q < length cs
left_inside cs q n e = go (drop q cs) refl (dec_lt q (length cs))
  where
    go : (xs : List Cell) → drop q cs ≡ xs → Dec (q < length cs) → q < length cs
    go xs i (yes h) = h
    go [] i (no h) = absurd (let j = sym (ap (λ m. left m (suc n)) i) ∙ e in omega arith)
    go (x ∷ xs) i (no h) = absurd (let l = length-drop q cs in let m = ap length i in omega arith)

module _ (cs more : List Cell) where
  arguments_grow : (n q : ℕ) → left (drop q cs) n ≡ 0 → arguments (cs ++ more) n q ≡ arguments cs n q
  arguments_grow zero q e = refl
  arguments_grow (suc n) q e =
      let h = left_inside cs q n e in
      let o : 1 + n ≡ suc n = omega arith in
      let e' : left (drop q cs) (1 + n) ≡ 0 = ap (left (drop q cs)) o ∙ e in
      let c = get_or_append_left cs more blank q h in
      let d = drop-append-le q cs more (omega arith) in
      let s : span (drop q (cs ++ more)) 1 ≡ span (drop q cs) 1 = ap (λ m. span m 1) d ∙ span_append (drop q cs) more 1 (left_less (drop q cs) 1 n e') in
      let a : after (cs ++ more) q ≡ after cs q = ap (λ m. q + m) s in
      let f : left (drop (after cs q) cs) n ≡ 0 = ap (λ m. left m n) (sym (drop-drop (span (drop q cs) 1) q cs)) ∙ left_after (drop q cs) 1 n e' in
      let i = arguments_grow n (after cs q) f in
      rw (c, a) (ap (λ m. node_at cs q ∷ m) i)

  -- cells are added at the end
  pub cells_grow : (up : ℕ → ℕ) → length (cs ++ more) ≤ 1568 → Whole cs → ((n : ℕ) → length cs ≤ n → n < length (cs ++ more) → up n ≡ n) → Grows (graph cs) (graph (cs ++ more)) up
  cells_grow up small whole fresh = record {
    kept = λ n solid. at n solid (dec_lt n (length cs));
    fresh = λ n e solid. new n e solid (dec_lt n (length cs)) (dec_lt n (length (cs ++ more)));
  }
    where
      same : (n : ℕ) → n < length cs → Dec ((get_or cs n blank).tag ≡ 2) → graph (cs ++ more) n ≡ graph cs n
      same n h (yes t) =
          let l = length-append cs more in
          let c = get_or_append_left cs more blank n h in
          let g = graph_app (cs ++ more) n (omega arith) (ap (λ x. x.tag) c ∙ t) in
          let i : (get_or (cs ++ more) n blank).arity ≡ (get_or cs n blank).arity = ap (λ x. x.arity) c in
          let j = ap (λ x. x.value) c in
          g ∙ (ap (λ v. app v (arguments (cs ++ more) (get_or (cs ++ more) n blank).arity (n + 1))) j
          ∙ (ap (λ a. app (get_or cs n blank).value (arguments (cs ++ more) a (n + 1))) i
          ∙ (ap (app (get_or cs n blank).value) (arguments_grow (get_or cs n blank).arity (n + 1) (whole n h t)) ∙ sym (graph_app cs n h t))))
      same n h (no t) =
          let l = length-append cs more in
          let c = get_or_append_left cs more blank n h in
          let g = graph_atom (cs ++ more) n (omega arith) (λ e. t (sym (ap (λ x. x.tag) c) ∙ e)) in
          g ∙ (ap (λ x. atom x.form x.value) c ∙ sym (graph_atom cs n h t))

      at : (n : ℕ) → graph cs n ≢ free → Dec (n < length cs) → graph (cs ++ more) n ≡ graph cs n
      at n solid (yes h) = same n h (ℕ_discrete (get_or cs n blank).tag 2)
      at n solid (no h) = absurd (solid (graph_free cs n (omega arith)))

      new : (n : ℕ) → graph cs n ≡ free → graph (cs ++ more) n ≢ free → Dec (n < length cs) → Dec (n < length (cs ++ more)) → up n ≡ n
      new n e solid (no h) (yes k) = fresh n (omega arith) k
      new n e solid (no h) (no k) = absurd (solid (graph_free (cs ++ more) n (omega arith)))
      new n e solid (yes h) k = absurd (solid (same n h (ℕ_discrete (get_or cs n blank).tag 2) ∙ e))

-- no cell stands at a free place
free_past : (cs : List Cell) (n : ℕ) → graph cs n ≡ free → length cs ≤ n
free_past cs n e = go (dec_lt n (length cs)) (ℕ_discrete (get_or cs n blank).tag 2)
  where
    go : Dec (n < length cs) → Dec ((get_or cs n blank).tag ≡ 2) → length cs ≤ n
    go (no h) d = omega arith
    go (yes h) (yes t) = let g = sym (graph_app cs n h t) ∙ e in let z : ◌≡◌ {A = ℕ} 0 1 = cc in absurd (omega arith)
    go (yes h) (no t) = let g = sym (graph_atom cs n h t) ∙ e in let z : ◌≡◌ {A = ℕ} 0 1 = cc in absurd (omega arith)

-- places without a cell are roots
pub bare_fresh : (cs more : List Cell) (up : ℕ → ℕ) → length (cs ++ more) ≤ 1568 → ((k : ℕ) → graph cs k ≡ free → k < arena → up k ≡ k) → (n : ℕ) → length cs ≤ n → n < length (cs ++ more) → up n ≡ n
bare_fresh cs more up small bare n h k = bare n (graph_free cs n h) (omega arith)

pub live_grow : (cs more : List Cell) (E : List Pair) → AllLive arena (graph cs) E → AllLive arena (graph (cs ++ more)) E
live_grow cs more [] a = tt
live_grow cs more (p ∷ E) a = (one p.left a.0, one p.right a.1, live_grow cs more E a.2)
  where
    one : (n : ℕ) → Live arena (graph cs) n → Live arena (graph (cs ++ more)) n
    one n live e = live (graph_free cs n (let f = free_past (cs ++ more) n e in let l = length-append cs more in omega arith))

left_append : (xs ys : List Cell) (need : ℕ) → left xs need ≡ 0 → left (xs ++ ys) need ≡ 0
left_append [] ys need e = rw e (none ys)
  where
    none : (zs : List Cell) → left zs 0 ≡ 0
    none [] = refl
    none (z ∷ zs) = refl
left_append (x ∷ xs) ys zero e = refl
left_append (x ∷ xs) ys (suc need) e = left_append xs ys (need + x.arity) e

-- whole terms after whole terms
pub whole_append : (cs more : List Cell) → Whole cs → Whole more → Whole (cs ++ more)
whole_append cs more a b p h t = go (dec_lt p (length cs))
  where
    go : Dec (p < length cs) → left (drop (p + 1) (cs ++ more)) (get_or (cs ++ more) p blank).arity ≡ 0
    go (yes i) =
        let c = get_or_append_left cs more blank p i in
        let w = a p i (sym (ap (λ x. x.tag) c) ∙ t) in
        let d = drop-append-le (p + 1) cs more (omega arith) in
        ap (λ x. left (drop (p + 1) (cs ++ more)) x.arity) c ∙ (ap (λ xs. left xs (get_or cs p blank).arity) d ∙ left_append (drop (p + 1) cs) more (get_or cs p blank).arity w)
    go (no i) =
        let l = length-append cs more in
        let k : p ≡ length cs + (p - length cs) = omega arith in
        let k' : p + 1 ≡ length cs + (p - length cs + 1) = omega arith in
        let c : get_or (cs ++ more) p blank ≡ get_or more (p - length cs) blank = ap (λ n. get_or (cs ++ more) n blank) k ∙ get_or-append-add cs more (p - length cs) blank in
        let d : drop (p + 1) (cs ++ more) ≡ drop (p - length cs + 1) more = ap (λ n. drop n (cs ++ more)) k' ∙ (sym (drop-drop (p - length cs + 1) (length cs) (cs ++ more)) ∙ ap (drop (p - length cs + 1)) (drop_at cs more (length cs) refl)) in
        let w = b (p - length cs) (omega arith) (sym (ap (λ x. x.tag) c) ∙ t) in
        ap (λ x. left (drop (p + 1) (cs ++ more)) x.arity) c ∙ (ap (λ xs. left xs (get_or more (p - length cs) blank).arity) d ∙ w)

-- the numbers of finitely many nodes have a bound
bounded : (rank : ℕ → ℕ) (n : ℕ) → (b : ℕ) × ((k : ℕ) → k < n → rank k ≤ b)
bounded rank zero = (0, λ k h. absurd (omega arith))
bounded rank (suc n) =
    let w = bounded rank n in
    (w.0 + rank n, λ k h. go k h w (ℕ_discrete k n))
  where
    go : (k : ℕ) → k < suc n → (w : (b : ℕ) × ((k : ℕ) → k < n → rank k ≤ b)) → Dec (k ≡ n) → rank k ≤ w.0 + rank n
    go k h w (yes i) = let e = ap rank i in omega arith
    go k h w (no i) = let e = w.1 k (omega arith) in omega arith

-- new functions come above all old ones, the later below the earlier
abbrev later : Shape → ℕ → ℕ
later free x = 0
later (atom f v) x = 0
later (app s ks) x = x

abbrev above : Shape → ℕ → ℕ → ℕ
above free x y = y
above (atom f v) x y = y
above (app s ks) x y = x

module _ (cs more : List Cell) (up : ℕ → ℕ) (small : length (cs ++ more) ≤ 1568) (whole : Whole cs) (fresh : (n : ℕ) → length cs ≤ n → n < length (cs ++ more) → up n ≡ n)
    (tied : (k : ℕ) → Live arena (graph cs) k → Live arena (graph cs) (up k)) (rank : ℕ → ℕ) (ordered : Ordered (graph cs) up rank) where
  few : length cs ≤ 1568
  few = let l = length-append cs more in omega arith

  grows : Grows (graph cs) (graph (cs ++ more)) up
  grows = cells_grow cs more up small whole fresh

  top : ℕ
  top = (bounded rank (length cs)).0

  rank_top : (n s : ℕ) (ks : List ℕ) → graph cs n ≡ app s ks → rank n ≤ top
  unfolding top
  rank_top n s ks e = (bounded rank (length cs)).1 n (app_inside cs n s ks e)

  abbrev rank' : ℕ → ℕ
  rank' n = above (graph cs n) (1 + rank n) (later (graph (cs ++ more) n) (top + 2 + (arena - n)))

  -- the root of a node that was live is an old function, or none
  old_root : (k : ℕ) → Live arena (graph cs) k → (b : ℕ) → ((s : ℕ) (ks : List ℕ) → graph cs (find up k) ≡ app s ks → 1 + rank (find up k) < b) → 0 < b → rank' (find up k) < b
  old_root k live b h z = go (graph cs (find up k)) refl (graph (cs ++ more) (find up k)) refl
    where
      m : ℕ
      m = find up k

      go : (sh : Shape) → graph cs (find up k) ≡ sh → (sh' : Shape) → graph (cs ++ more) (find up k) ≡ sh' → rank' (find up k) < b
      go (app s ks) e sh' e' = rw e (h s ks e)
      go (atom f v) e sh' e' =
          let i = grows.kept (find up k) (λ z. let i : atom f v ≡ free = sym e ∙ z in let o : ◌≡◌ {A = ℕ} 0 1 = cc in omega arith) ∙ e in rw (e, i) z
      go free e free e' = rw (e, e') z
      go free e (atom f v) e' = rw (e, e') z
      go free e (app s ks) e' =
          let a = walk_alive (graph cs) up tied k k live e in
          let i = graph_free (cs ++ more) (find up k) (omega arith) in
          let j : app s ks ≡ free = sym e' ∙ i in let o : ◌≡◌ {A = ℕ} 0 1 = cc in absurd (omega arith)

  new_root : (n k : ℕ) → length cs ≤ n → n < length (cs ++ more) → n < k → Live arena (graph (cs ++ more)) k → rank' (find up k) < top + 2 + (arena - n)
  new_root n k old new after live = go (dec_lt k (length (cs ++ more)))
    where
      shape : (sh : Shape) → (x : ℕ) → x < top + 2 + (arena - n) → later sh x < top + 2 + (arena - n)
      shape free x h = omega arith
      shape (atom f v) x h = omega arith
      shape (app s ks) x h = h

      go : Dec (k < length (cs ++ more)) → rank' (find up k) < top + 2 + (arena - n)
      go (yes h) =
          let r = walk_fixed up k k (fresh k (omega arith) h) in
          let f = graph_free cs k (omega arith) in
          rw (r, f) (shape (graph (cs ++ more) k) (top + 2 + (arena - k)) (omega arith))
      go (no h) =
          let a = live (graph_free (cs ++ more) k (omega arith)) in
          old_root k (λ _. a) (top + 2 + (arena - n)) (λ s ks e. let t = rank_top (find up k) s ks e in omega arith) (omega arith)

  -- what contained nothing of itself still does not
  pub acyclic_grow : Acyclic (graph (cs ++ more)) up
  acyclic_grow = (rank', λ r s ks e q. go r s ks e q (graph cs r) refl)
    where
      go : (r s : ℕ) (ks : List ℕ) → up r ≡ r → graph (cs ++ more) r ≡ app s ks → (sh : Shape) → graph cs r ≡ sh → Each (λ k. rank' (find up k) < rank' r) ks
      go r s ks e q free z =
          let i = app_inside (cs ++ more) r s ks q in
          let old = free_past cs r z in
          let here : rank' r ≡ top + 2 + (arena - r) = rw (z, q) in
          each_map (λ k b. let n = new_root r k old i b.0 b.1 in omega arith) ks ((cells_forward (cs ++ more) small).arguments r s ks q)
      go r s ks e q (atom f v) z = absurd (
          let i = grows.kept r (λ z'. let i : atom f v ≡ free = sym z ∙ z' in let o : ◌≡◌ {A = ℕ} 0 1 = cc in omega arith) in
          let j : atom f v ≡ app s ks = sym z ∙ (sym i ∙ q) in let o : ◌≡◌ {A = ℕ} 0 1 = cc in omega arith)
      go r s ks e q (app t ls) z =
          let i = grows.kept r (λ z'. let i : app t ls ≡ free = sym z ∙ z' in let o : ◌≡◌ {A = ℕ} 0 1 = cc in omega arith) in
          let j : app t ls ≡ app s ks = sym z ∙ (sym i ∙ q) in let l : ks ≡ ls = cc in
          let here : rank' r ≡ 1 + rank r = rw z in
          subst (Each (λ k. rank' (find up k) < rank' r)) (sym l)
          (each_both (λ k a b. let h = old_root k a.1 (1 + rank r) (λ _ _ _. omega arith) (omega arith) in omega arith) ls
          ((cells_forward cs few).arguments r t ls z) (ordered r t ls e z))

-- the start
roots_at : (i n k : ℕ) → get_or (roots i n) k (i + k) ≡ i + k
roots_at i zero k = refl
roots_at i (suc n) zero = omega arith
roots_at i (suc n) (suc k) = let z : i + suc k ≡ suc i + k = omega arith in ap (get_or (roots (suc i) n) k) z ∙ (roots_at (suc i) n k ∙ sym z)

pub roots_length : (i n : ℕ) → length (roots i n) ≡ n
roots_length i zero = refl
roots_length i (suc n) = ap suc (roots_length (suc i) n)

roots_from : (i n m : ℕ) → m ≡ i + n → roots i (suc n) ≡ roots i n ++ (m ∷ [])
roots_from i zero m e = let z : i ≡ m = omega arith in ap (λ (x : ℕ). x ∷ []) z
roots_from i (suc n) m e = ap (λ (xs : List ℕ). i ∷ xs) (roots_from (suc i) n m (omega arith))

pub roots_more : (n : ℕ) → roots 0 (n + 1) ≡ roots 0 n ++ (n ∷ [])
roots_more n = let z : n + 1 ≡ suc n = omega arith in ap (roots 0) z ∙ roots_from 0 n n (omega arith)

pub roots_up : (n : ℕ) → up_of (roots 0 n) ≡ same_node
roots_up n = fun_ext (λ k. let z : 0 + k ≡ k = omega arith in ap (get_or (roots 0 n) k) (sym z) ∙ (roots_at 0 n k ∙ z))

pub roots_down : (n k : ℕ) → up_of (roots 0 n) k ≤ k
roots_down n k = let e : up_of (roots 0 n) k ≡ k = ap (λ (f : ℕ → ℕ). f k) (roots_up n) in omega arith

-- with every node a root, nothing contains itself
pub start_acyclic : (cs : List Cell) (n : ℕ) → length cs ≤ 1568 → Acyclic (graph cs) (up_of (roots 0 n))
start_acyclic cs n small = subst (Acyclic (graph cs)) (sym (roots_up n)) ((λ k. arena - k), forward_ordered arena (graph cs) (cells_forward cs small))

pub start_going : (kind : ℕ → ℕ → ℕ) (cs : List Cell) (n : ℕ) (E : List Pair) → Going kind (graph cs) E true (up_of (roots 0 n)) E
start_going kind cs n E = subst (λ up. Going kind (graph cs) E true up E) (sym (roots_up n)) (going_start kind (graph cs) E)

-- what cells that fit give
pub all_fits : (cs : List Cell) (p : ℕ) → all_fit cs ≡ true → fits (get_or cs p blank) ≡ true
all_fits [] p e = refl
all_fits (c ∷ cs) zero e = (and_parts (fits c) (all_fit cs) e).0
all_fits (c ∷ cs) (suc p) e = all_fits cs p (and_parts (fits c) (all_fit cs) e).1

pub fits_arity : (c : Cell) → fits c ≡ true → c.arity ≤ 8
fits_arity c e = leb-true c.arity 8 (and_parts (leb c.arity 8) (cond (eqb c.tag 0) (ltb c.value 1056) true) e).0

fits_variable : (c : Cell) → fits c ≡ true → c.tag ≡ 0 → c.value < 1056
fits_variable c e t =
    let v = (and_parts (leb c.arity 8) (cond (eqb c.tag 0) (ltb c.value 1056) true) e).1 in
    ltb-true c.value 1056 (subst (λ b. cond b (ltb c.value 1056) true ≡ true) (eq-eqb c.tag 0 t) v)

pub fit_append : (xs ys : List Cell) → all_fit xs ≡ true → all_fit ys ≡ true → all_fit (xs ++ ys) ≡ true
fit_append [] ys a b = b
fit_append (x ∷ xs) ys a b = let w = and_parts (fits x) (all_fit xs) a in and_from (fits x) (all_fit (xs ++ ys)) w.0 (fit_append xs ys w.1 b)

pub fit_take : (n : ℕ) (xs : List Cell) → all_fit xs ≡ true → all_fit (take n xs) ≡ true
fit_take zero xs a = refl
fit_take (suc n) [] a = refl
fit_take (suc n) (x ∷ xs) a = let w = and_parts (fits x) (all_fit xs) a in and_from (fits x) (all_fit (take n xs)) w.0 (fit_take n xs w.1)

pub node_below : (cs : List Cell) → length cs ≤ 1568 → all_fit cs ≡ true → (p : ℕ) → node_at cs p < 2624
node_below cs small fit p = go (ℕ_discrete (get_or cs p blank).tag 0) (dec_lt p (length cs))
  where
    go : Dec ((get_or cs p blank).tag ≡ 0) → Dec (p < length cs) → node_at cs p < 2624
    go (yes t) d = let v = fits_variable (get_or cs p blank) (all_fits cs p fit) t in rw (eq-eqb (get_or cs p blank).tag 0 t) (omega arith)
    go (no t) (yes i) = rw (ne_eqb (get_or cs p blank).tag 0 t) (omega arith)
    go (no t) (no i) = let e = get_or_past cs p blank (omega arith) in absurd (t (ap (λ c. c.tag) e))

-- 12,544 pairs of room suffice for all arguments
pub owes_room : (cs : List Cell) (l : List ℕ) → length cs ≤ 1568 → all_fit cs ≡ true → weight (owes cs) 0 l ≤ 12544
owes_room cs l small fit = weight_bound (owes cs) 8 1568 owes-small owes-none 0 l
  where
    owes-small : (k : ℕ) → owes cs k ≤ 8
    owes-small k = go (graph cs k) refl
      where
        go : (sh : Shape) → graph cs k ≡ sh → owes cs k ≤ 8
        go free e = let z : owes cs k ≡ 0 = ap arity_sh e in omega arith
        go (atom f v) e = let z : owes cs k ≡ 0 = ap arity_sh e in omega arith
        go (app t ks) e =
            let z : owes cs k ≡ length ks = ap arity_sh e in
            let y = ap length (app_arguments cs small k t ks e) ∙ arguments_length cs (get_or cs k blank).arity (k + 1) in
            let h = fits_arity (get_or cs k blank) (all_fits cs k fit) in omega arith

    owes-none : (k : ℕ) → 1568 ≤ k → owes cs k ≡ 0
    owes-none k h = ap arity_sh (graph_free cs k (omega arith))
