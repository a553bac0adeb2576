use Rattle.std.proofs.Common.{◌≡◌, ℕ, zero, suc, ◌+◌, ◌<◌, ◌≤◌, Bool, true, false, ◌&&◌, eqb, ltb, List, ◌∷◌, length, get_or, set, Some, None, sym, refl, ap, ◌∙◌, subst, inl, arith, lt-ltb, eq-eqb}
use Rattle.std.proofs.lemmas.Bool.{and_from}
use Rattle.std.proofs.lemmas.List.{length-set}
use Rattle.terms.specs.declared.Cell.{Cell}
use Rattle.unification.specs.declared.arena.Arena.{Arena}
use Rattle.unification.specs.declared.links.Links.{Links}
use Rattle.unification.specs.State.{cells_in, links_in}
use Rattle.graphs.specs.declared.Pair.{Pair}
use Rattle.unification.specs.declared.solve.Meet.TheVariants.{Bind, Same, Unequal, Args}
use Rattle.unification.specs.declared.solve.Turn.{Turn}
use Rattle.unification.specs.declared.solve.Turn.TheVariants.{Plain, Deep, Differ}
use Rattle.unification.specs.declared.solve.Tally.{Tally}
use Rattle.graphs.specs.Graph.{app, Stacked, Tie, find, onto, Acyclic}
use Rattle.graphs.specs.Links.{up_of, weight, Down}
use Rattle.graphs.specs.Meaning.{arena, kind_algebra, Going, Live}
use Rattle.graphs.specs.Cells.{blank, node_at, graph, arity_sh, owes, arguments, after}
use Rattle.unification.specs.Run.{Meets, Within, fuel, Ready, Lost, Orderly, same_flag, flag_off, Went, Turned, tallied}
use Rattle.graphs.proofs.Lists.{set_linked, weight_root}
use Rattle.graphs.proofs.CellLaws.{arguments_length, app_inside, node_alive}
use Rattle.graphs.proofs.Arena.{app_tag}
use Rattle.graphs.proofs.Wholes.{node_below}
use Rattle.graphs.proofs.Cycle.{plain_acyclic}
use Rattle.graphs.proofs.Turns.{clash_turn}
use Rattle.graphs.proofs.Loop.{same_turn, equal_turn, unequal_turn, variable_turn, function_turn}

-- what cells and links are
pub record Laid (cs : List Cell) (l : List ℕ) : Type 0 where
  pub small : length cs ≤ 1568
  pub down : Down l
  pub named : (p : ℕ) → node_at cs p < length l

pub few_cells : (a : Arena) → length (cells_in a) ≤ 1568
few_cells a = let few = a.few in let ok = a.cells.ok.0 in omega arith

pub all_links : (k : Links) → length (links_in k) ≡ 2624
all_links k = let n = k.nodes in let ok = k.up.ok.0 in omega arith

pub laid : (a : Arena) (k : Links) → Laid (cells_in a) (links_in k)
laid a k = record {
  small = few_cells a;
  down = k.down;
  named = λ p. let b = node_below (cells_in a) (few_cells a) a.fit p in let n = all_links k in omega arith;
}

pub within_onto : (cs : List Cell) (m n x y : ℕ) (st : List Pair) → length cs ≤ 1568 → ((p : ℕ) → node_at cs p < m) → Within cs m st → Within cs m (onto (arguments cs n x) (arguments cs n y) st)
within_onto cs m zero x y st small named w = w
within_onto cs m (suc n) x y st small named w =
    within_onto cs m n (after cs x) (after cs y) (record { left = node_at cs x; right = node_at cs y } ∷ st) small named ((named x, node_alive cs small x), (named y, node_alive cs small y), w)

owes_app : (cs : List Cell) (r s m x : ℕ) → graph cs r ≡ app s (arguments cs m x) → owes cs r ≡ m
owes_app cs r s m x e = ap arity_sh e ∙ arguments_length cs m x

-- one pair by its two roots
module _ (cs : List Cell) (l : List ℕ) (st : List Pair) (n m r q : ℕ) (given : Laid cs l) (ready : Ready cs l st n m) (above : q < r) (inside : r < length l) (top : up_of l r ≡ r) where
  pub room_args : (t k : ℕ) → graph cs r ≡ app t (arguments cs k (r + 1)) → n + k ≤ m
  room_args t k e =
      let w = weight_root (owes cs) l r q inside top above in let o = owes_app cs r t k (r + 1) e in let h = ready.room in omega arith

  relinked : (st' : List Pair) (k : ℕ) → Within cs (length l) st' → weight (owes cs) 0 (set l r q) + k ≤ m → Ready cs (set l r q) st' k m
  relinked st' k within room =
      let e = length-set l r q in
      record { within = subst (λ m. Within cs m st') (sym e) within; room = room }

  -- a variable's root linked to no function keeps what is in order
  pub plain_link : (kind : ℕ → ℕ → ℕ) → Meets kind cs r q (Some Bind) → up_of l q ≡ q → (ltb q (length cs) && eqb (get_or cs q blank).tag 2) ≡ false → (l' : List ℕ) → l' ≡ set l r q → Orderly cs l l'
  plain_link kind f lower other l' le order = subst (λ x. Acyclic (graph cs) (up_of x)) (sym le)
      (plain_acyclic (graph cs) (up_of l) (up_of (set l r q)) r q given.down (set_linked l r q inside) top lower above f
      (λ s ks e. let i = app_inside cs q s ks e in let t = app_tag cs given.small q s ks e in
      let y = and_from (ltb q (length cs)) (eqb (get_or cs q blank).tag 2) (lt-ltb q (length cs) i) (eq-eqb (get_or cs q blank).tag 2 t) in
      let b : ◌≡◌ {A = Bool} true false = sym y ∙ other in let z : ◌≡◌ {A = ℕ} 0 1 = cc in omega arith)
      order.0 order.1)

  module _ (p : Pair) (tie : Tie (up_of l) p r q) (left : Live arena (graph cs) p.left) (right : Live arena (graph cs) p.right) (kind : ℕ → ℕ → ℕ) where
    pub join_bind : Meets kind cs r q (Some Bind) → (l' : List ℕ) → l' ≡ set l r q → Went kind cs l (p ∷ st) (n + 1) l' st n m same_flag
    join_bind f l' le =
        let w = weight_root (owes cs) l r q inside top above in
        let w' = weight_root (fuel cs) l r q inside top above in
        let h = ready.room in
        subst (λ x. Went kind cs l (p ∷ st) (n + 1) x st n m same_flag) (sym le) (record {
          ready = relinked st n ready.within (omega arith);
          kept = λ E flag going. variable_turn kind (graph cs) E flag (up_of l) st p going r q tie (up_of (set l r q)) top (set_linked l r q inside) (omega arith) left right f;
          less = omega arith;
        })

    pub join_same : Meets kind cs r q (Some Same) → Went kind cs l (p ∷ st) (n + 1) l st n m same_flag
    join_same w =
        record {
          ready = ready;
          kept = λ E flag going. equal_turn kind (graph cs) E flag (up_of l) st p going r q tie w.0 w.1 w.2.0 w.2.1;
          less = omega arith;
        }

    pub join_unequal : Meets kind cs r q (Some Unequal) → Went kind cs l (p ∷ st) (n + 1) l st n m flag_off
    join_unequal w =
        record {
          ready = ready;
          kept = λ E flag going. unequal_turn kind (graph cs) E flag (up_of l) st p going r q tie w.0 w.1 w.2 w.3 w.4.0 w.4.1 w.4.2 w.4.3;
          less = omega arith;
        }

    pub join_clash : Meets kind cs r q None → Lost kind cs l (p ∷ st)
    join_clash w E flag going = clash_turn (kind_algebra kind) (graph cs) (λ ρ. Stacked (kind_algebra kind) ρ E) (up_of l) st p going.on_kinds r q tie w

    linked_args : (k : ℕ) → Meets kind cs r q (Some (Args k)) → Went kind cs l (p ∷ st) (n + 1) (set l r q) (onto (arguments cs k (r + 1)) (arguments cs k (q + 1)) st) (n + k) m same_flag
    linked_args k a =
        let t = a.0 in let ks = arguments cs k (r + 1) in let ls = arguments cs k (q + 1) in
        let w = weight_root (owes cs) l r q inside top above in
        let w' = weight_root (fuel cs) l r q inside top above in
        let o = owes_app cs r t k (r + 1) a.1.0 in
        let h = ready.room in
        let e : length ks ≡ length ls = arguments_length cs k (r + 1) ∙ sym (arguments_length cs k (q + 1)) in
        record {
          ready = relinked (onto ks ls st) (n + k) (within_onto cs (length l) k (r + 1) (q + 1) st given.small given.named ready.within) (omega arith);
          kept = λ E flag going. function_turn kind (graph cs) E flag (up_of l) st p going r q tie (up_of (set l r q)) top (set_linked l r q inside) (omega arith) left right t ks ls a.1.0 a.1.1 e;
          less = omega arith;
        }

    pub join_args : (k : ℕ) → Meets kind cs r q (Some (Args k)) → (l' : List ℕ) → l' ≡ set l r q → (st' : List Pair) → st' ≡ onto (arguments cs k (r + 1)) (arguments cs k (q + 1)) st
        → (n' : ℕ) → n' ≡ n + k → (m' : ℕ) → m' ≡ m → Went kind cs l (p ∷ st) (n + 1) l' st' n' m' same_flag
    join_args k a l' le st' se n' ne m' me =
        subst (λ x. Went kind cs l (p ∷ st) (n + 1) x st' n' m' same_flag) (sym le)
        (subst (λ x. Went kind cs l (p ∷ st) (n + 1) (set l r q) x n' m' same_flag) (sym se)
        (subst (λ x. Went kind cs l (p ∷ st) (n + 1) (set l r q) (onto (arguments cs k (r + 1)) (arguments cs k (q + 1)) st) x m' same_flag) (sym ne)
        (subst (λ x. Went kind cs l (p ∷ st) (n + 1) (set l r q) (onto (arguments cs k (r + 1)) (arguments cs k (q + 1)) st) (n + k) x same_flag) (sym me) (linked_args k a))))

-- the newest pair
module _ (cs : List Cell) (l : List ℕ) (p : Pair) (st : List Pair) (n m : ℕ) (ready : Ready cs l (p ∷ st) (n + 1) m) where
  pub rest_ready : Ready cs l st n m
  rest_ready = let h = ready.room in
      record { room = omega arith; within = ready.within.2 }

  pub same_went : (kind : ℕ → ℕ → ℕ) → find (up_of l) p.left ≡ find (up_of l) p.right → Went kind cs l (p ∷ st) (n + 1) l st n m same_flag
  same_went kind e =
      record {
        ready = rest_ready;
        kept = λ E flag going. same_turn kind (graph cs) E flag (up_of l) st p going (find (up_of l) p.left) (find (up_of l) p.right) (inl (refl, refl)) e;
        less = omega arith;
      }

-- a turn is counted in
pub record Counted (kind : ℕ → ℕ → ℕ) (cs : List Cell) (l : List ℕ) (st : List Pair) (n : ℕ) (l' : List ℕ) (st' : List Pair) (k m : ℕ) (t t' : Tally) : Type 0 where
  pub ready : Ready cs l' st' k m
  pub less : weight (fuel cs) 0 l' + k < weight (fuel cs) 0 l + n
  pub kept : (E : List Pair) → Going kind (graph cs) E t.equal (up_of l) st → Going kind (graph cs) E t'.equal (up_of l') st'
  pub orderly : t'.deep ≡ false → (t.deep ≡ false) × Orderly cs l l'

pub counted_in : (kind : ℕ → ℕ → ℕ) (cs : List Cell) (l : List ℕ) (st : List Pair) (n : ℕ) (l' : List ℕ) (st' : List Pair) (k m : ℕ) (turn : Turn) (t t' : Tally)
    → t' ≡ tallied t turn → Turned kind cs l st n l' st' k m (Some turn) → Counted kind cs l st n l' st' k m t t'
counted_in kind cs l st n l' st' k m turn t t' te w = subst (Counted kind cs l st n l' st' k m t) (sym te) (go turn w)
  where
    go : (turn : Turn) → Turned kind cs l st n l' st' k m (Some turn) → Counted kind cs l st n l' st' k m t (tallied t turn)
    go Plain w = record { ready = w.0.ready; less = w.0.less; kept = λ E e. w.0.kept E t.equal e; orderly = λ d. (d, w.1) }
    go Deep w = record { ready = w.ready; less = w.less; kept = λ E e. w.kept E t.equal e; orderly = λ d. absurd (let z : ◌≡◌ {A = ℕ} 0 1 = cc in omega arith) }
    go Differ w = record { ready = w.0.ready; less = w.0.less; kept = λ E e. w.0.kept E t.equal e; orderly = λ d. (d, w.1) }
