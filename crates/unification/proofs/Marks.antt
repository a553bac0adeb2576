-- What the marks of a walk tell of its numbers.
use Rattle.std.proofs.Common.{◌≡◌, ℕ, zero, suc, ◌+◌, ◌-◌, ◌<◌, ◌≤◌, ◌≢◌, true, false, List, [], ◌∷◌, map, length, get_or, set, sym, refl, ap, ◌∙◌, subst, arith}
use native.Mathlib.Decide.{ℕ_discrete}
use Rattle.std.proofs.lemmas.List.{get_or-set_same, get_or-set_other, length-set, length-map, drop_all}
use Rattle.terms.specs.declared.Cell.{Cell}
use Rattle.unification.specs.declared.walk.Walk.{Walk}
use Rattle.unification.specs.declared.walk.mark.Mark.{Mark}
use Rattle.unification.specs.declared.walk.mark.Mark.TheVariants.{Unseen, Open, Done}
use denote.Enum.Bare.{sameb}
use Rattle.unification.specs.contracts.walk.mark.Mark.{the_type}
use Rattle.graphs.specs.Graph.{Shape, free, atom, app, Graph, find}
use Rattle.graphs.specs.Links.{up_of}
use Rattle.graphs.specs.Meaning.{number, number_of}
use Rattle.graphs.specs.Cells.{blank, graph, node_at, after, arguments}
use Rattle.graphs.specs.Search.{order_of, Cyclic, StillAcyclic}
use Rattle.unification.specs.Marks.{mark_of_shape, mark_of, unseen, Bears, Marking, Begins, Walks, Walking, Sweeping}
use Rattle.graphs.proofs.Arena.{app_tag}
use Rattle.graphs.proofs.CellLaws.{app_inside, arguments_length}
use Rattle.graphs.proofs.Searches.{amid_start, kid_open', kid_new', amid_done', amid_visited', amid_end}
use Rattle.graphs.proofs.Outcomes.{sweep_state, sweep_start, sweep_numbered, sweep_visited, sweep_new, sweep_end}
use Rattle.unification.specs.State.{cells_in, links_in}
use Rattle.unification.proofs.Runs.{Laid, few_cells}

-- a mark that is set
pub unseen_set : (ms : List Mark) (r : ℕ) (m : Mark) → m ≢ Unseen → unseen (set ms r m) ≤ unseen ms
unseen_set [] r m ne = omega arith
unseen_set (x ∷ ms) zero Unseen ne = absurd (ne refl)
unseen_set (Unseen ∷ ms) zero Open ne = omega arith
unseen_set (Unseen ∷ ms) zero Done ne = omega arith
unseen_set (Open ∷ ms) zero Open ne = omega arith
unseen_set (Open ∷ ms) zero Done ne = omega arith
unseen_set (Done ∷ ms) zero Open ne = omega arith
unseen_set (Done ∷ ms) zero Done ne = omega arith
unseen_set (Unseen ∷ ms) (suc r) m ne = let i = unseen_set ms r m ne in omega arith
unseen_set (Open ∷ ms) (suc r) m ne = unseen_set ms r m ne
unseen_set (Done ∷ ms) (suc r) m ne = unseen_set ms r m ne

unseen_open : (ms : List Mark) (r : ℕ) → r < length ms → get_or ms r Unseen ≡ Unseen → unseen (set ms r Open) < unseen ms
unseen_open [] r h e = absurd (omega arith)
unseen_open (Unseen ∷ ms) zero h e = omega arith
unseen_open (Open ∷ ms) zero h e = absurd (let z : ◌≡◌ {A = ℕ} 0 1 = cc in omega arith)
unseen_open (Done ∷ ms) zero h e = absurd (let z : ◌≡◌ {A = ℕ} 0 1 = cc in omega arith)
unseen_open (Unseen ∷ ms) (suc r) h e = let i = unseen_open ms r (omega arith) e in omega arith
unseen_open (Open ∷ ms) (suc r) h e = unseen_open ms r (omega arith) e
unseen_open (Done ∷ ms) (suc r) h e = unseen_open ms r (omega arith) e

marking_set : (ms : List Mark) (o : List ℕ) (r x : ℕ) (m : Mark) → Marking ms o → r < length ms → Bears m x → Marking (set ms r m) (set o r x)
marking_set ms o r x m mk h b =
    let long = mk.long in let i = length-set ms r m in let j = length-set o r x in
    record { long = omega arith; each = λ k. go k (ℕ_discrete k r) }
  where
    go : (k : ℕ) → Dec (k ≡ r) → Bears (get_or (set ms r m) k Unseen) (get_or (set o r x) k 0)
    go k (yes e) = let long = mk.long in rw (e, get_or-set_same ms r m Unseen h, get_or-set_same o r x 0 (omega arith)) b
    go k (no n) = rw (get_or-set_other ms r k m Unseen n, get_or-set_other o r k x 0 n) (mk.each k)

bears_of : (g : Graph) (ms : List Mark) (o : List ℕ) (k : ℕ) → Marking ms o → Bears (mark_of g ms k) (number g (order_of o) k)
bears_of g ms o k mk = go (g k)
  where
    go : (sh : Shape) → Bears (mark_of_shape sh (get_or ms k Unseen)) (number_of sh (get_or o k 0))
    go free = omega arith
    go (atom f v) = omega arith
    go (app s ks) = mk.each k

bears_is : (g : Graph) (ms : List Mark) (o : List ℕ) (k : ℕ) (m : Mark) → Marking ms o → mark_of g ms k ≡ m → Bears m (number g (order_of o) k)
bears_is g ms o k m mk e = subst (λ x. Bears x (number g (order_of o) k)) e (bears_of g ms o k mk)

-- marks that are compared
pub is_unseen : (m : Mark) → sameb the_type m Unseen ≡ true → m ≡ Unseen
is_unseen Unseen e = refl
is_unseen Open e = absurd (let z : ◌≡◌ {A = ℕ} 0 1 = cc in omega arith)
is_unseen Done e = absurd (let z : ◌≡◌ {A = ℕ} 0 1 = cc in omega arith)

pub not_unseen : (m : Mark) → sameb the_type m Unseen ≡ false → m ≢ Unseen
not_unseen Unseen e = absurd (let z : ◌≡◌ {A = ℕ} 0 1 = cc in omega arith)
not_unseen Open e = λ i. let z : ◌≡◌ {A = ℕ} 0 1 = cc in omega arith
not_unseen Done e = λ i. let z : ◌≡◌ {A = ℕ} 0 1 = cc in omega arith

pub done_seen : Done ≢ Unseen
done_seen = λ i. let z : ◌≡◌ {A = ℕ} 0 1 = cc in omega arith

-- what is unseen is a function
unseen_function : (cs : List Cell) (ms : List Mark) (k : ℕ) → length cs ≤ 1568 → mark_of (graph cs) ms k ≡ Unseen → (get_or ms k Unseen ≡ Unseen) × ((k < length cs) × ((get_or cs k blank).tag ≡ 2))
unseen_function cs ms k small e = go (graph cs k) refl e
  where
    go : (sh : Shape) → graph cs k ≡ sh → mark_of_shape sh (get_or ms k Unseen) ≡ Unseen → (get_or ms k Unseen ≡ Unseen) × ((k < length cs) × ((get_or cs k blank).tag ≡ 2))
    go free q e = absurd (let z : ◌≡◌ {A = ℕ} 0 1 = cc in omega arith)
    go (atom f v) q e = absurd (let z : ◌≡◌ {A = ℕ} 0 1 = cc in omega arith)
    go (app s ks) q e = (e, (app_inside cs k s ks q, app_tag cs small k s ks q))

-- a walk that comes to a root
module _ (w : Walk) (r : ℕ) (new : mark_of (graph (cells_in w.arena.now)) w.marks.now r ≡ Unseen) where
  abbrev cs : List Cell
  cs = cells_in w.arena.now

  abbrev l : List ℕ
  l = links_in w.links.now

  abbrev marks : List Mark
  marks = w.marks.now

  function : (get_or marks r Unseen ≡ Unseen) × ((r < length cs) × ((get_or cs r blank).tag ≡ 2))
  function = unseen_function cs marks r (few_cells w.arena.now) new

  unvisited : get_or marks r Unseen ≡ Unseen
  unvisited = function.0

  place : r < length cs
  place = function.1.0

  symbol : (get_or cs r blank).tag ≡ 2
  symbol = function.1.1

  wide : length cs ≤ length marks
  wide = let one = w.one_each in omega arith

  pub walk_opened : unseen (set marks r Open) < unseen marks
  walk_opened = unseen_open marks r (let p = place in let n = wide in omega arith) unvisited

  zero_at : (o : List ℕ) → Marking marks o → get_or o r 0 ≡ 0
  zero_at o mk = subst (λ m. Bears m (get_or o r 0)) unvisited (mk.each r)

  pub walk_start : Walking cs l marks r (set marks r Open) (arguments cs (get_or cs r blank).arity (r + 1))
  walk_start o c b =
      let z : (get_or cs r blank).arity - 0 ≡ (get_or cs r blank).arity = omega arith in (
        set o r 1,
        c,
        r + 1,
        0,
        (marking_set marks o r 1 Open b.marking (let p = place in let n = wide in omega arith) refl, (amid_start cs l o c r b.state (zero_at o b.marking) place symbol b.inside, ap (λ m. arguments cs m (r + 1)) (sym z))),
      )

  module _ (ms' : List Mark) (ks : List ℕ) (at_kids : Walking cs l marks r ms' ks) where
    pub walk_end : ks ≡ [] → length cs ≤ length ms' → Walks cs l marks r (set ms' r Done) true
    walk_end none long o c b =
        let n = (get_or cs r blank).arity in let all = arguments cs n (r + 1) in
        let x = at_kids o c b in let amid = x.4.1.0 in let early = amid.state.early in
        let e = ap length (sym x.4.1.1 ∙ none) in let k = arguments_length cs (n - x.3) x.2 in let m = arguments_length cs n (r + 1) in
        let z : n - n ≡ 0 = omega arith in let few : n ≤ x.3 = omega arith in (
          set x.0 r x.1,
          x.1 + 1,
          (
            marking_set ms' x.0 r x.1 Done x.4.0 (let p = place in omega arith) (omega arith),
            amid_end cs l o c r b.state (zero_at o b.marking) place symbol b.inside x.0 x.1 x.2
                (record {
                  state = amid.state;
                  progress = amid.progress;
                  past = λ i h. amid.past i (omega arith);
                  rest = ap (λ q. arguments cs q x.2) z ∙ sym (drop_all n all (omega arith));
                  near = amid.near;
                  fewer = amid.fewer;
                  within = amid.within;
                }),
          ),
        )

    -- the next argument
    module _ (kid : ℕ) (ks' : List ℕ) (is : ks ≡ kid ∷ ks') (k : ℕ) (ke : k ≡ find (up_of l) kid) where
      next_place : (n i at : ℕ) → ks ≡ arguments cs (n - i) at → (i < n) × ((kid ≡ node_at cs at) × (ks' ≡ arguments cs (n - (i + 1)) (after cs at)))
      next_place n i at e = go (n - i) refl (sym is ∙ e)
        where
          go : (m : ℕ) → n - i ≡ m → kid ∷ ks' ≡ arguments cs m at → (i < n) × ((kid ≡ node_at cs at) × (ks' ≡ arguments cs (n - (i + 1)) (after cs at)))
          go zero z f = absurd (let y : ◌≡◌ {A = ℕ} 0 1 = cc in omega arith)
          go (suc m) z f =
              let d : n - (i + 1) ≡ m = omega arith in
              (omega arith, ((let h : kid ≡ node_at cs at = cc in h), (let h : ks' ≡ arguments cs m (after cs at) = cc in h ∙ ap (λ q. arguments cs q (after cs at)) (sym d))))

      found : (at : ℕ) → kid ≡ node_at cs at → k ≡ find (up_of l) (node_at cs at)
      found at e = ke ∙ ap (find (up_of l)) e

      pub walk_open : mark_of (graph cs) ms' k ≡ Open → Walks cs l marks r ms' false
      walk_open e o c b =
          let x = at_kids o c b in let p = next_place (get_or cs r blank).arity x.3 x.2 x.4.1.1 in
          kid_open' cs l o c r b.state (zero_at o b.marking) place symbol b.inside x.0 x.1 x.2 x.3 x.4.1.0 p.0 k (found x.2 p.1.0) (bears_is (graph cs) ms' x.0 k Open x.4.0 e)

      pub walk_done : mark_of (graph cs) ms' k ≡ Done → Walking cs l marks r ms' ks'
      walk_done e o c b =
          let x = at_kids o c b in let p = next_place (get_or cs r blank).arity x.3 x.2 x.4.1.1 in (
            x.0,
            x.1,
            after cs x.2,
            x.3 + 1,
            (
              x.4.0,
              (
                amid_done' cs l o c r b.state (zero_at o b.marking) place symbol b.inside x.0 x.1 x.2 x.3 x.4.1.0 p.0 k (found x.2 p.1.0) x.0 x.1 (after cs x.2) refl refl refl (bears_is (graph cs) ms' x.0 k Done x.4.0 e),
                p.1.1,
              ),
            ),
          )

      kid_begins : mark_of (graph cs) ms' k ≡ Unseen → (o : List ℕ) (c : ℕ) (b : Begins cs l marks r o c) → Begins cs l ms' k (at_kids o c b).0 (at_kids o c b).1
      kid_begins e o c b =
          let x = at_kids o c b in let p = next_place (get_or cs r blank).arity x.3 x.2 x.4.1.1 in
          record {
            marking = x.4.0;
            state = x.4.1.0.state;
            inside = (kid_new' cs l o c r b.state (zero_at o b.marking) place symbol b.inside x.0 x.1 x.2 x.3 x.4.1.0 p.0 k (found x.2 p.1.0) (bears_is (graph cs) ms' x.0 k Unseen x.4.0 e)).1.1.1;
          }

      pub walk_visited : mark_of (graph cs) ms' k ≡ Unseen → (ms'' : List Mark) → Walks cs l ms' k ms'' true → Walking cs l marks r ms'' ks'
      walk_visited e ms'' v o c b =
          let x = at_kids o c b in let y = v x.0 x.1 (kid_begins e o c b) in let p = next_place (get_or cs r blank).arity x.3 x.2 x.4.1.1 in (
            y.0,
            y.1,
            after cs x.2,
            x.3 + 1,
            (
              y.2.0,
              (
                amid_visited' cs l o c r b.state (zero_at o b.marking) place symbol b.inside x.0 x.1 x.2 x.3 x.4.1.0 p.0 k (found x.2 p.1.0) y.0 y.1 (after cs x.2) refl y.0 y.1 refl refl y.2.1,
                p.1.1,
              ),
            ),
          )

      pub walk_cycle : mark_of (graph cs) ms' k ≡ Unseen → (ms'' ms₃ : List Mark) → Walks cs l ms' k ms'' false → Walks cs l marks r ms₃ false
      walk_cycle e ms'' ms₃ v o c b = v _ _ (kid_begins e o c b)

-- the nodes of a list, one after another
module _ (cs : List Cell) (l nodes : List ℕ) where
  abbrev none : List Mark → List ℕ
  none ms = map (λ m. 0) ms

  none_at : (ms : List Mark) (k : ℕ) → get_or (none ms) k 0 ≡ 0
  none_at [] k = refl
  none_at (m ∷ ms) zero = refl
  none_at (m ∷ ms) (suc k) = none_at ms k

  pub sweep_clean : (ms : List Mark) → Laid cs l → length cs ≤ length ms → length ms ≤ 1568 → ((k : ℕ) → get_or ms k Unseen ≡ Unseen) → Sweeping cs l nodes ms 0
  sweep_clean ms given wide narrow clean =
      let long : length (none ms) ≡ length ms = length-map ms (λ m. 0) in (
        none ms,
        3,
        (
          record { long = long; each = λ k. subst (λ m. Bears m (get_or (none ms) k 0)) (sym (clean k)) (none_at ms k) },
          sweep_start cs l nodes (none ms) (sweep_state cs l (none ms) given.small given.down given.named (omega arith) (omega arith) (none_at ms)) (none_at ms),
        ),
      )

  module _ (ms : List Mark) (n : ℕ) (s : Sweeping cs l nodes ms n) (r : ℕ) (re : r ≡ find (up_of l) (get_or nodes n 0)) where
    pub swept : mark_of (graph cs) ms r ≢ Unseen → Sweeping cs l nodes ms (n + 1)
    swept ne =
        (s.0, s.1, (s.2.0, sweep_numbered cs l nodes s.0 s.1 n s.2.1 r re (not_zero (mark_of (graph cs) ms r) refl)))
      where
        not_zero : (m : Mark) → mark_of (graph cs) ms r ≡ m → number (graph cs) (order_of s.0) r ≢ 0
        not_zero Unseen e = absurd (ne e)
        not_zero Open e = let b = bears_is (graph cs) ms s.0 r Open s.2.0 e in λ z. omega arith
        not_zero Done e = let b = bears_is (graph cs) ms s.0 r Done s.2.0 e in λ z. omega arith

    begins : mark_of (graph cs) ms r ≡ Unseen → Begins cs l ms r s.0 s.1
    begins e = record {
      marking = s.2.0;
      state = s.2.1.state;
      inside = (sweep_new cs l nodes s.0 s.1 n s.2.1 r (bears_is (graph cs) ms s.0 r Unseen s.2.0 e)).1.1.1;
    }

    pub sweep_more : mark_of (graph cs) ms r ≡ Unseen → (ms' : List Mark) → Walks cs l ms r ms' true → Sweeping cs l nodes ms' (n + 1)
    sweep_more e ms' v =
        let y = v s.0 s.1 (begins e) in
        (y.0, y.1, (y.2.0, sweep_visited cs l nodes s.0 s.1 n s.2.1 r re y.0 y.1 y.2.1))

    pub sweep_cycle : mark_of (graph cs) ms r ≡ Unseen → (ms' : List Mark) → Walks cs l ms r ms' false → Cyclic cs l
    sweep_cycle e ms' v = v s.0 s.1 (begins e)

  pub swept_all : (ms : List Mark) (n : ℕ) → Sweeping cs l nodes ms n → length nodes ≤ n → StillAcyclic cs l nodes true
  swept_all ms n s h = sweep_end cs l nodes s.0 s.1 n s.2.1 h
