-- An equation between two functions of one symbol and arity is that of their arguments.
use Rattle.std.proofs.Common.{◌≡◌, ℕ, ◌+◌, ◌<◌, ◌≤◌, Bool, true, false, cond, ◌&&◌, eqb, ltb, List, [], ◌∷◌, ◌++◌, map, length, get_or, sym, refl, ap, ◌∙◌, arith}
use Rattle.std.proofs.lemmas.Bool.{and_parts, ltb-true, eqb-true, ne_eqb}
use Rattle.terms.specs.declared.Cell.{Cell}
use Rattle.graphs.specs.declared.Pair.{Pair}
use Rattle.graphs.specs.Graph.{app, Graph, Algebra, Stacked, Solves, onto}
use Rattle.graphs.specs.Links.{up_of}
use Rattle.graphs.specs.Meaning.{term_algebra, kind_algebra, Going}
use Rattle.graphs.specs.Cells.{blank, node_at, graph, arguments}
use Rattle.graphs.proofs.Turns.{Laws, stacked_append, stacked_left, stacked_right, stacked_onto, onto_stacked, pairs_equal, equal_pairs}
use Rattle.graphs.proofs.Instances.{term_laws, kind_laws}
use Rattle.graphs.proofs.Grow.{going_push}
use Rattle.graphs.proofs.CellLaws.{graph_app, arguments_length, node_alive}
use Rattle.unification.specs.Run.{Within}
use Rattle.unification.specs.Outcomes.{equation, same_functor, functors_match, opened}
use Rattle.unification.proofs.Runs.{within_onto}

-- two functions of one symbol and arity are stacked as their arguments
module _ (g : Graph) (E : List Pair) (up : ℕ → ℕ) (x y s : ℕ) (ks ls : List ℕ) (a : g x ≡ app s ks) (b : g y ≡ app s ls) (len : length ks ≡ length ls) where
  abbrev whole : List Pair
  whole = record { left = x; right = y } ∷ []

  args_solves : (A : Algebra) → Laws A → Solves A g (λ ρ. Stacked A ρ E) up [] → Solves A g (λ ρ. Stacked A ρ (E ++ whole)) up (onto ks ls [])
  args_solves A laws sol = record {
    closed = λ n t ms os c d ρ at sat. sol.closed n t ms os c d ρ at (record { linked = sat.linked; stacked = tt });
    same = λ ρ val. (
      (λ sat.
          let e = pairs_equal A ρ ks ls len (onto_stacked A ρ ks ls [] sat.stacked).0 in
          stacked_append A ρ E whole ((sol.same ρ val).0 (record { linked = sat.linked; stacked = tt }))
          (val.apps x s ks a ∙ (ap (A.app_t s) e ∙ sym (val.apps y s ls b)), tt)),
      (λ d.
          let e = (stacked_right A ρ E whole d).0 in
          let i = laws.app_parts s s (map ρ ks) (map ρ ls) (sym (val.apps x s ks a) ∙ (e ∙ val.apps y s ls b)) in
          record { linked = ((sol.same ρ val).1 (stacked_left A ρ E whole d)).linked; stacked = stacked_onto A ρ ks ls [] (equal_pairs A ρ ks ls i) tt }),
    );
  }

  going_args : (kind : ℕ → ℕ → ℕ) (flag : Bool) → Going kind g E flag up [] → Going kind g (E ++ whole) flag up (onto ks ls [])
  going_args kind flag going = record {
    sound = going.sound;
    tied = going.tied;
    bare = going.bare;
    on_kinds = args_solves (kind_algebra kind) (kind_laws kind) going.on_kinds;
    on_terms = λ t. args_solves term_algebra term_laws (going.on_terms t);
    dead = λ f ρ val d. going.dead f ρ val (stacked_left term_algebra ρ E whole d);
  }

-- what it says that functions match
pub record Matched (cs : List Cell) (left right : ℕ) : Type 0 where
  pub left_inside : left < length cs
  pub right_inside : right < length cs
  pub left_tag : (get_or cs left blank).tag ≡ 2
  pub right_tag : (get_or cs right blank).tag ≡ 2
  pub value : (get_or cs left blank).value ≡ (get_or cs right blank).value
  pub arity : (get_or cs left blank).arity ≡ (get_or cs right blank).arity

pub matched : (cs : List Cell) (left right : ℕ) → functors_match cs left right ≡ true → Matched cs left right
matched cs left right e =
    let x = get_or cs left blank in let y = get_or cs right blank in
    let p = and_parts (ltb left (length cs) && ltb right (length cs)) (same_functor x y) e in
    let q = and_parts (ltb left (length cs)) (ltb right (length cs)) p.0 in
    let r = and_parts (eqb x.tag 2) (eqb y.tag 2 && (eqb x.value y.value && eqb x.arity y.arity)) p.1 in
    let s = and_parts (eqb y.tag 2) (eqb x.value y.value && eqb x.arity y.arity) r.1 in
    let t = and_parts (eqb x.value y.value) (eqb x.arity y.arity) s.1 in
    record {
      left_inside = ltb-true left (length cs) q.0;
      right_inside = ltb-true right (length cs) q.1;
      left_tag = eqb-true x.tag 2 r.0;
      right_tag = eqb-true y.tag 2 s.0;
      value = eqb-true x.value y.value t.0;
      arity = eqb-true x.arity y.arity t.1;
    }

-- a function's cell is its node
node_function : (cs : List Cell) (p : ℕ) → (get_or cs p blank).tag ≡ 2 → node_at cs p ≡ p
node_function cs p t = rw (ne_eqb (get_or cs p blank).tag 0 (λ z. omega arith))

-- one more equation on a solved system, as it is stacked
pub going_open : (kind : ℕ → ℕ → ℕ) (cs : List Cell) (E : List Pair) (l : List ℕ) (left right : ℕ) → Going kind (graph cs) E true (up_of l) []
    → Going kind (graph cs) (E ++ equation cs left right) true (up_of l) (opened cs left right [])
going_open kind cs E l left right going = go (functors_match cs left right) refl
  where
    at : (x y : ℕ) → node_at cs left ≡ x → node_at cs right ≡ y → Going kind (graph cs) (E ++ (record { left = x; right = y } ∷ [])) true (up_of l) (onto (arguments cs (get_or cs left blank).arity (left + 1)) (arguments cs (get_or cs left blank).arity (right + 1)) [])
        → Going kind (graph cs) (E ++ equation cs left right) true (up_of l) (onto (arguments cs (get_or cs left blank).arity (left + 1)) (arguments cs (get_or cs left blank).arity (right + 1)) [])
    at x y ex ey w = rw (ex, ey) w

    go : (b : Bool) → functors_match cs left right ≡ b → Going kind (graph cs) (E ++ equation cs left right) true (up_of l)
        (cond b (onto (arguments cs (get_or cs left blank).arity (left + 1)) (arguments cs (get_or cs left blank).arity (right + 1)) []) (equation cs left right))
    go true e =
        let m = matched cs left right e in
        let a = graph_app cs left m.left_inside m.left_tag in
        let b = graph_app cs right m.right_inside m.right_tag in
        let b' : graph cs right ≡ app (get_or cs left blank).value (arguments cs (get_or cs left blank).arity (right + 1)) = b ∙ (ap (λ v. app v (arguments cs (get_or cs right blank).arity (right + 1))) (sym m.value) ∙ ap (λ k. app (get_or cs left blank).value (arguments cs k (right + 1))) (sym m.arity)) in
        let ks = arguments cs (get_or cs left blank).arity (left + 1) in
        let ls = arguments cs (get_or cs left blank).arity (right + 1) in
        at left right (node_function cs left m.left_tag) (node_function cs right m.right_tag)
        (going_args (graph cs) E (up_of l) left right (get_or cs left blank).value ks ls a b' (arguments_length cs (get_or cs left blank).arity (left + 1) ∙ sym (arguments_length cs (get_or cs left blank).arity (right + 1))) kind true going)
    go false e = going_push kind (graph cs) E (equation cs left right) true (up_of l) going

-- its nodes have links
pub within_open : (cs : List Cell) (m left right : ℕ) → length cs ≤ 1568 → ((p : ℕ) → node_at cs p < m) → Within cs m (opened cs left right [])
within_open cs m left right small named = go (functors_match cs left right)
  where
    go : (b : Bool) → Within cs m (cond b (onto (arguments cs (get_or cs left blank).arity (left + 1)) (arguments cs (get_or cs left blank).arity (right + 1)) []) (equation cs left right))
    go true = within_onto cs m (get_or cs left blank).arity (left + 1) (right + 1) [] small named tt
    go false = ((named left, node_alive cs small left), (named right, node_alive cs small right), tt)
