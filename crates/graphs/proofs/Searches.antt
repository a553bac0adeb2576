use Rattle.std.proofs.Common.{◌≡◌, ℕ, zero, suc, ◌+◌, ◌-◌, ◌<◌, ◌≤◌, ◌⊎◌, List, [], ◌∷◌, length, get_or, drop, set, sym, refl, ap, ◌∙◌, subst, inl, inr, arith, eq-eqb, ne_eqb}
use native.Mathlib.Decide.{ℕ_discrete}
use Rattle.std.proofs.lemmas.List.{get_or-set_same, get_or-set_other, length-set, drop_more}
use Rattle.terms.specs.declared.Cell.{Cell}
use Rattle.graphs.specs.Terms.{ksize}
use Rattle.graphs.specs.Graph.{Shape, free, atom, app, Graph, Each, Linked, find}
use Rattle.graphs.specs.Links.{up_of}
use Rattle.graphs.specs.Meaning.{number_of, number, Before, Inside}
use Rattle.graphs.specs.Cells.{blank, node_at, graph, arguments, after}
use Rattle.graphs.specs.Search.{order_of, zeros, Progress, Searching, Cyclic, Finished, Amid, Enclosed}
use Rattle.graphs.proofs.CellLaws.{graph_app, arguments_length, after_le}
use Rattle.graphs.proofs.Cycle.{visited_open, visited_close, inside_argument}
use Rattle.graphs.proofs.CellLaws.{app_inside}
use Rattle.graphs.proofs.Arena.{app_tag}

order_linked : (o : List ℕ) (r x : ℕ) → r < length o → Linked (order_of o) r x (order_of (set o r x))
order_linked o r x h = record { here = get_or-set_same o r x 0 h; else = λ n i. get_or-set_other o r n x 0 i }

pub zeros_open : (o : List ℕ) (r x : ℕ) → r < length o → get_or o r 0 ≡ 0 → 1 ≤ x → zeros o ≡ suc (zeros (set o r x))
zeros_open [] r x h e l = absurd (omega arith)
zeros_open (y ∷ ys) zero x h e l = rw (eq-eqb y 0 e, ne_eqb x 0 (λ z. omega arith)) (omega arith)
zeros_open (y ∷ ys) (suc r) x h e l = let i = zeros_open ys r x (omega arith) e l in omega arith

zeros_close : (o : List ℕ) (r x : ℕ) → r < length o → 1 ≤ get_or o r 0 → 1 ≤ x → zeros (set o r x) ≡ zeros o
zeros_close [] r x h e l = absurd (omega arith)
zeros_close (y ∷ ys) zero x h e l = rw (ne_eqb y 0 (λ z. omega arith), ne_eqb x 0 (λ z. omega arith)) refl
zeros_close (y ∷ ys) (suc r) x h e l = let i = zeros_close ys r x (omega arith) e l in omega arith

-- what a number says
pub number_app : (g : Graph) (o : ℕ → ℕ) (k : ℕ) → number g o k < 2 → (s : ℕ) × ((ks : List ℕ) × ((g k ≡ app s ks) × (o k ≡ number g o k)))
number_app g o k h = go (g k) refl
  where
    go : (sh : Shape) → g k ≡ sh → (s : ℕ) × ((ks : List ℕ) × ((g k ≡ app s ks) × (o k ≡ number g o k)))
    go free e = absurd (let z : number g o k ≡ 2 = ap (λ sh. number_of sh (o k)) e in omega arith)
    go (atom f v) e = absurd (let z : number g o k ≡ 2 = ap (λ sh. number_of sh (o k)) e in omega arith)
    go (app s ks) e = (s, (ks, (e, sym (ap (λ sh. number_of sh (o k)) e))))

pub number_later : (g : Graph) (o : ℕ → ℕ) (k c : ℕ) → 3 ≤ c → o k < c → number g o k < c
number_later g o k c h l = go (g k) refl
  where
    go : (sh : Shape) → g k ≡ sh → number g o k < c
    go free e = let z : number g o k ≡ 2 = ap (λ sh. number_of sh (o k)) e in omega arith
    go (atom f v) e = let z : number g o k ≡ 2 = ap (λ sh. number_of sh (o k)) e in omega arith
    go (app s ks) e = let z : number g o k ≡ o k = ap (λ sh. number_of sh (o k)) e in omega arith

pub number_done : (g : Graph) (o : ℕ → ℕ) (k : ℕ) → 2 ≤ o k → 2 ≤ number g o k
number_done g o k l = go (g k) refl
  where
    go : (sh : Shape) → g k ≡ sh → 2 ≤ number g o k
    go free e = let z : number g o k ≡ 2 = ap (λ sh. number_of sh (o k)) e in omega arith
    go (atom f v) e = let z : number g o k ≡ 2 = ap (λ sh. number_of sh (o k)) e in omega arith
    go (app s ks) e = let z : number g o k ≡ o k = ap (λ sh. number_of sh (o k)) e in omega arith

pub progress_number : (g : Graph) (o o' : List ℕ) (k : ℕ) → Progress o o' → 2 ≤ number g (order_of o) k → 2 ≤ number g (order_of o') k
progress_number g o o' k p h = go (p k)
  where
    go : (get_or o' k 0 ≡ get_or o k 0) ⊎ ((get_or o k 0 ≡ 0) × (3 ≤ get_or o' k 0)) → 2 ≤ number g (order_of o') k
    go (inl e) = let z : number g (order_of o') k ≡ number g (order_of o) k = ap (number_of (g k)) e in omega arith
    go (inr w) = number_done g (order_of o') k (let a = w.1 in omega arith)

progress_trans : (a b c : List ℕ) → Progress a b → Progress b c → Progress a c
progress_trans a b c p q n = go (p n) (q n)
  where
    go : (get_or b n 0 ≡ get_or a n 0) ⊎ ((get_or a n 0 ≡ 0) × (3 ≤ get_or b n 0)) → (get_or c n 0 ≡ get_or b n 0) ⊎ ((get_or b n 0 ≡ 0) × (3 ≤ get_or c n 0))
        → (get_or c n 0 ≡ get_or a n 0) ⊎ ((get_or a n 0 ≡ 0) × (3 ≤ get_or c n 0))
    go (inl e) (inl f) = inl (f ∙ e)
    go (inl e) (inr w) = inr (sym e ∙ w.0, w.1)
    go (inr w) (inl f) = inr (w.0, (let x = w.1 in omega arith))
    go (inr w) (inr v) = inr (w.0, v.1)

each_at : (P : ℕ → Type 0) (xs : List ℕ) (i : ℕ) → Each P xs → i < length xs → P (get_or xs i 0)
each_at P [] i e h = absurd (omega arith)
each_at P (x ∷ xs) zero e h = e.0
each_at P (x ∷ xs) (suc i) e h = each_at P xs i e.1 (omega arith)

at_each : (P : ℕ → Type 0) (xs : List ℕ) → ((i : ℕ) → i < length xs → P (get_or xs i 0)) → Each P xs
at_each P [] f = tt
at_each P (x ∷ xs) f = (f 0 (omega arith), at_each P xs (λ i h. f (suc i) (omega arith)))

-- after the last argument no place matters
pub amid_anywhere : (cs : List Cell) (l o₁ : List ℕ) (total r n : ℕ) (o : List ℕ) (time place place' i : ℕ) → n ≤ i → place' ≤ 1568 → Amid cs l o₁ total r n o time place i → Amid cs l o₁ total r n o time place' i
amid_anywhere cs l o₁ total r n o time place place' i last near amid =
    let z : n - i ≡ 0 = omega arith in
    record {
      state = amid.state;
      progress = amid.progress;
      past = amid.past;
      rest = ap (λ m. arguments cs m place') z ∙ (sym (ap (λ m. arguments cs m place) z) ∙ amid.rest);
      near = near;
      fewer = amid.fewer;
      within = amid.within;
    }

module _ (cs : List Cell) (l o : List ℕ) (clock r : ℕ) (state : Searching cs l o clock) (unvisited : get_or o r 0 ≡ 0) (place : r < length cs) (symbol : (get_or cs r blank).tag ≡ 2)
    (inside : Enclosed cs l o r) where
  n : ℕ
  n = (get_or cs r blank).arity

  abbrev o₁ : List ℕ
  o₁ = set o r 1

  abbrev ks : List ℕ
  ks = arguments cs (get_or cs r blank).arity (r + 1)

  room : r < length o
  room = let w = state.wide in omega arith

  open_state : Searching cs l o₁ clock
  open_state =
      let z = zeros_open o r 1 room unvisited (omega arith) in let w = state.wide in let k = length-set o r 1 in let c = state.count in let e = state.early in
      record {
        small = state.small;
        down = state.down;
        named = state.named;
        wide = omega arith;
        visited = visited_open (graph cs) (up_of l) (order_of o) (order_of o₁) r (get_or cs r blank).value 1 ks (graph_app cs r place symbol) (omega arith) (order_linked o r 1 room) refl state.visited;
        early = e;
        later = λ m. go m (ℕ_discrete m r);
        count = omega arith;
      }
    where
      go : (m : ℕ) → Dec (m ≡ r) → get_or o₁ m 0 < clock
      go m (yes i) = let h = get_or-set_same o r 1 0 room in let e = state.early in rw (i, h) (omega arith)
      go m (no i) = rw (get_or-set_other o r m 1 0 i) (state.later m)

  pub amid_start : Amid cs l o₁ (clock + zeros o₁) r (get_or cs r blank).arity o₁ clock (r + 1) 0
  amid_start =
      let s = state.small in
      let z : (get_or cs r blank).arity - 0 ≡ (get_or cs r blank).arity = omega arith in
      record {
        state = open_state;
        progress = λ m. inl refl;
        past = λ j h. absurd (omega arith);
        rest = ap (λ m. arguments cs m (r + 1)) z;
        near = omega arith;
        fewer = omega arith;
        within = omega arith;
      }

  -- one argument on
  module _ (ot : List ℕ) (time at i : ℕ) (amid : Amid cs l o₁ (clock + zeros o₁) r (get_or cs r blank).arity ot time at i) (h : i < (get_or cs r blank).arity) where
    abbrev kid : ℕ
    kid = find (up_of l) (node_at cs at)

    next_both : (node_at cs at ≡ get_or ks i 0) × (arguments cs ((get_or cs r blank).arity - (i + 1)) (after cs at) ≡ drop (i + 1) ks)
    next_both =
        let len = arguments_length cs (get_or cs r blank).arity (r + 1) in
        let z : (get_or cs r blank).arity - i ≡ suc ((get_or cs r blank).arity - (i + 1)) = omega arith in
        let e : arguments cs (suc ((get_or cs r blank).arity - (i + 1))) at ≡ get_or ks i 0 ∷ drop (i + 1) ks =
        ap (λ m. arguments cs m at) (sym z) ∙ (amid.rest ∙ drop_more ks i 0 (omega arith)) in
        (cc, cc)

    kid_inside : Enclosed cs l ot kid
    kid_inside kind ρ val lk x e =
        let len = arguments_length cs (get_or cs r blank).arity (r + 1) in
        let all = inside_argument kind (graph cs) (up_of l) (order_of o) (order_of o₁) r (get_or cs r blank).value ks (graph_app cs r place symbol) (order_linked o r 1 room) (inside kind) in
        let one = each_at (λ k. Inside kind (graph cs) (up_of l) (order_of o₁) (find (up_of l) k)) ks i all (omega arith) in
        let was : get_or o₁ x 0 ≡ 1 = go (amid.progress x) in
        subst (λ k. ksize (ρ (find (up_of l) k)) < ksize (ρ x)) (sym next_both.0) (one ρ val lk x was)
      where
        go : (get_or ot x 0 ≡ get_or o₁ x 0) ⊎ ((get_or o₁ x 0 ≡ 0) × (3 ≤ get_or ot x 0)) → get_or o₁ x 0 ≡ 1
        go (inl f) = sym f ∙ e
        go (inr w) = absurd (let a = w.1 in omega arith)

    pub kid_open : number (graph cs) (order_of ot) kid ≡ 1 → Cyclic cs l
    kid_open e kind ρ val lk =
        let w = number_app (graph cs) (order_of ot) kid (omega arith) in
        let z = kid_inside kind ρ val lk kid (w.1.1.1 ∙ e) in omega arith

    pub kid_new : number (graph cs) (order_of ot) kid ≡ 0
        → (get_or ot kid 0 ≡ 0) × ((kid < length cs) × (((get_or cs kid blank).tag ≡ 2) × Enclosed cs l ot kid))
    kid_new e =
        let w = number_app (graph cs) (order_of ot) kid (omega arith) in
        (w.1.1.1 ∙ e, (app_inside cs kid w.0 w.1.0 w.1.1.0, (app_tag cs state.small kid w.0 w.1.0 w.1.1.0, kid_inside)))

    amid_more : (ot' : List ℕ) (time' : ℕ) → Searching cs l ot' time' → Progress ot ot' → 2 ≤ number (graph cs) (order_of ot') kid → zeros ot' ≤ zeros ot → time' + zeros ot' ≤ time + zeros ot
        → Amid cs l o₁ (clock + zeros o₁) r (get_or cs r blank).arity ot' time' (after cs at) (i + 1)
    amid_more ot' time' st pr dn fw wi =
        let f = amid.fewer in let w = amid.within in
        record {
          state = st;
          progress = progress_trans o₁ ot ot' amid.progress pr;
          past = λ j k. go j k (ℕ_discrete j i);
          rest = next_both.1;
          near = after_le cs at 1568 amid.near state.small;
          fewer = omega arith;
          within = omega arith;
        }
      where
        go : (j : ℕ) → j < i + 1 → Dec (j ≡ i) → 2 ≤ number (graph cs) (order_of ot') (find (up_of l) (get_or ks j 0))
        go j k (yes e) = subst (λ m. 2 ≤ number (graph cs) (order_of ot') (find (up_of l) m)) (next_both.0 ∙ ap (λ m. get_or ks m 0) (sym e)) dn
        go j k (no e) = progress_number (graph cs) ot ot' (find (up_of l) (get_or ks j 0)) pr (amid.past j (omega arith))

    pub amid_done : 2 ≤ number (graph cs) (order_of ot) kid → Amid cs l o₁ (clock + zeros o₁) r (get_or cs r blank).arity ot time (after cs at) (i + 1)
    amid_done d = amid_more ot time amid.state (λ m. inl refl) d (omega arith) (omega arith)

    pub amid_visited : (ot' : List ℕ) (t : ℕ) → Finished cs l ot time kid ot' t → Amid cs l o₁ (clock + zeros o₁) r (get_or cs r blank).arity ot' t (after cs at) (i + 1)
    amid_visited ot' t f =
        let a = f.fewer in let b = f.within in let d = f.done in
        amid_more ot' t f.state f.progress (number_done (graph cs) (order_of ot') kid (omega arith)) (omega arith) (omega arith)

    -- the same of the root that was found
    module _ (k : ℕ) (ke : k ≡ kid) where
      pub kid_open' : number (graph cs) (order_of ot) k ≡ 1 → Cyclic cs l
      kid_open' e = kid_open (sym (ap (number (graph cs) (order_of ot)) ke) ∙ e)

      pub kid_new' : number (graph cs) (order_of ot) k ≡ 0
          → (get_or ot k 0 ≡ 0) × ((k < length cs) × (((get_or cs k blank).tag ≡ 2) × Enclosed cs l ot k))
      kid_new' e = subst (λ k. (get_or ot k 0 ≡ 0) × ((k < length cs) × (((get_or cs k blank).tag ≡ 2) × Enclosed cs l ot k))) (sym ke)
          (kid_new (sym (ap (number (graph cs) (order_of ot)) ke) ∙ e))

      module _ (ot' : List ℕ) (t at' : ℕ) (ae : at' ≡ after cs at) where
        pub amid_done' : ot' ≡ ot → t ≡ time → 2 ≤ number (graph cs) (order_of ot) k → Amid cs l o₁ (clock + zeros o₁) r (get_or cs r blank).arity ot' t at' (i + 1)
        amid_done' oe te d = subst (λ a. Amid cs l o₁ (clock + zeros o₁) r (get_or cs r blank).arity ot' t a (i + 1)) (sym ae)
            (subst (λ w. Amid cs l o₁ (clock + zeros o₁) r (get_or cs r blank).arity w t (after cs at) (i + 1)) (sym oe)
            (subst (λ w. Amid cs l o₁ (clock + zeros o₁) r (get_or cs r blank).arity ot w (after cs at) (i + 1)) (sym te)
            (amid_done (subst (λ k. 2 ≤ number (graph cs) (order_of ot) k) ke d))))

        pub amid_visited' : (ot'' : List ℕ) (t'' : ℕ) → ot' ≡ ot'' → t ≡ t'' → Finished cs l ot time k ot'' t'' → Amid cs l o₁ (clock + zeros o₁) r (get_or cs r blank).arity ot' t at' (i + 1)
        amid_visited' ot'' t'' oe te f = subst (λ a. Amid cs l o₁ (clock + zeros o₁) r (get_or cs r blank).arity ot' t a (i + 1)) (sym ae)
            (subst (λ w. Amid cs l o₁ (clock + zeros o₁) r (get_or cs r blank).arity w t (after cs at) (i + 1)) (sym oe)
            (subst (λ w. Amid cs l o₁ (clock + zeros o₁) r (get_or cs r blank).arity ot'' w (after cs at) (i + 1)) (sym te)
            (amid_visited ot'' t'' (subst (λ k. Finished cs l ot time k ot'' t'') ke f))))

  -- r is finished
  pub amid_end : (ot : List ℕ) (time at : ℕ) → Amid cs l o₁ (clock + zeros o₁) r (get_or cs r blank).arity ot time at (get_or cs r blank).arity → Finished cs l o clock r (set ot r time) (time + 1)
  amid_end ot time at amid =
      let z = zeros_open o r 1 room unvisited (omega arith) in
      let s = amid.state in let wide = s.wide in
      let rr : r < length ot = omega arith in
      let early = s.early in
      let one : get_or ot r 0 ≡ 1 = at_one (amid.progress r) in
      let c = zeros_close ot r time rr (omega arith) (omega arith) in
      let k = length-set ot r time in
      let f = amid.fewer in let w = amid.within in let cnt = s.count in
      let len = arguments_length cs (get_or cs r blank).arity (r + 1) in
      let cnt0 = state.count in
      let same = get_or-set_same ot r time 0 rr in
      record {
        state = record {
          small = s.small;
          down = s.down;
          named = s.named;
          wide = omega arith;
          visited = visited_close (graph cs) (up_of l) (order_of ot) (order_of (set ot r time)) r (get_or cs r blank).value time ks (graph_app cs r place symbol) (omega arith) (order_linked ot r time rr)
              (at_each (Before (graph cs) (up_of l) (order_of ot) time) ks
              (λ j h. (amid.past j (omega arith), number_later (graph cs) (order_of ot) (find (up_of l) (get_or ks j 0)) time early (s.later (find (up_of l) (get_or ks j 0))))))
              s.visited;
          early = omega arith;
          later = λ m. late m rr (ℕ_discrete m r);
          count = omega arith;
        };
        progress = λ m. prog m early rr (ℕ_discrete m r);
        done = omega arith;
        fewer = omega arith;
        within = omega arith;
      }
    where
      at_one : (get_or ot r 0 ≡ get_or o₁ r 0) ⊎ ((get_or o₁ r 0 ≡ 0) × (3 ≤ get_or ot r 0)) → get_or ot r 0 ≡ 1
      at_one (inl e) = e ∙ get_or-set_same o r 1 0 room
      at_one (inr w) = absurd (let a = w.0 in let b = get_or-set_same o r 1 0 room in omega arith)

      late : (m : ℕ) → r < length ot → Dec (m ≡ r) → get_or (set ot r time) m 0 < time + 1
      late m rr (yes i) = let h = get_or-set_same ot r time 0 rr in rw (i, h) (omega arith)
      late m rr (no i) = let h = amid.state.later m in rw (get_or-set_other ot r m time 0 i) (omega arith)

      prog : (m : ℕ) → 3 ≤ time → r < length ot → Dec (m ≡ r) → (get_or (set ot r time) m 0 ≡ get_or o m 0) ⊎ ((get_or o m 0 ≡ 0) × (3 ≤ get_or (set ot r time) m 0))
      prog m e rr (yes i) = let h = get_or-set_same ot r time 0 rr in rw i (inr (unvisited, (omega arith)))
      prog m e rr (no i) = subst (λ x. (x ≡ get_or o m 0) ⊎ ((get_or o m 0 ≡ 0) × (3 ≤ x))) (sym (get_or-set_other ot r m time 0 i))
          (subst (λ y. (get_or ot m 0 ≡ y) ⊎ ((y ≡ 0) × (3 ≤ get_or ot m 0))) (get_or-set_other o r m 1 0 i) (amid.progress m))

  pub amid_end' : (ot : List ℕ) (time at i : ℕ) → i ≡ (get_or cs r blank).arity → Amid cs l o₁ (clock + zeros o₁) r (get_or cs r blank).arity ot time at i → Finished cs l o clock r (set ot r time) (time + 1)
  amid_end' ot time at i e a = amid_end ot time at (subst (λ j. Amid cs l o₁ (clock + zeros o₁) r (get_or cs r blank).arity ot time at j) e a)
