use Rattle.std.proofs.Common.{◌≡◌, ℕ, suc, ◌+◌, ◌-◌, ◌<◌, ◌≤◌, List, [], ◌∷◌, ◌++◌, map, length, get_or, drop, sym, refl, ap, ◌∙◌, add-zero, arith, ne_eqb}
use Rattle.std.proofs.lemmas.List.{append_assoc, get_or-drop, length-drop, drop-drop, drop_at, length-append}
use Rattle.terms.specs.declared.Cell.{Cell}
use Rattle.graphs.specs.Terms.{Term, Terms, var, con, fun, none, more, pack}
use Rattle.graphs.specs.Graph.{atom, app, Values}
use Rattle.graphs.specs.Meaning.{term_algebra, decode}
use Rattle.graphs.specs.Cells.{blank, span, after, node_at, arguments, graph}
use Rattle.graphs.specs.Flat.{count, flat, flats, Stands}
use Rattle.graphs.proofs.CellLaws.{graph_app, graph_atom}
use Rattle.graphs.proofs.Instances.{value_values, value_free}
use Rattle.graphs.proofs.Arena.{cells_forward}

mutual
  span_flat : (t : Term) (post : List Cell) (need : ℕ) → span (flat t ++ post) (suc need) ≡ length (flat t) + span post need
  span_flat (var x) post need = rw (add-zero need) (omega arith)
  span_flat (con f v) post need = rw (add-zero need) (omega arith)
  span_flat (fun s ts) post need = let h = span_flats ts post need in omega arith

  span_flats : (ts : Terms) (post : List Cell) (need : ℕ) → span (flats ts ++ post) (need + count ts) ≡ length (flats ts) + span post need
  span_flats none post need = rw (add-zero need) (omega arith)
  span_flats (more t ts) post need =
      let a = span_flat t (flats ts ++ post) (need + count ts) in
      let b = span_flats ts post need in
      let l = length-append (flat t) (flats ts) in
      let z : need + suc (count ts) ≡ suc (need + count ts) = omega arith in
      rw (append_assoc, z) (omega arith)

pub after_flat : (cs : List Cell) (p : ℕ) (t : Term) (post : List Cell) → drop p cs ≡ flat t ++ post → drop (after cs p) cs ≡ post
after_flat cs p t post e =
    let a : span (drop p cs) 1 ≡ length (flat t) + span post 0 = ap (λ m. span m 1) e ∙ span_flat t post 0 in
    let z = span_none post in
    let k : after cs p ≡ p + length (flat t) = omega arith in
    ap (λ m. drop m cs) k ∙ (sym (drop-drop (length (flat t)) p cs) ∙ (ap (drop (length (flat t))) e ∙ drop_at (flat t) post (length (flat t)) refl))
  where
    span_none : (xs : List Cell) → span xs 0 ≡ 0
    span_none [] = refl
    span_none (x ∷ xs) = refl

first_cell : (cs : List Cell) (p : ℕ) (c : Cell) (rest : List Cell) → drop p cs ≡ c ∷ rest → (p < length cs) × (get_or cs p blank ≡ c)
first_cell cs p c rest e =
    let l = length-drop p cs in let m = ap length e in
    let z : p + 0 ≡ p = omega arith in
    (omega arith, ap (λ q. get_or cs q blank) (sym z) ∙ (sym (get_or-drop p cs 0 blank) ∙ ap (λ xs. get_or xs 0 blank) e))

rest_cells : (cs : List Cell) (p : ℕ) (c : Cell) (rest : List Cell) → drop p cs ≡ c ∷ rest → drop (p + 1) cs ≡ rest
rest_cells cs p c rest e = sym (drop-drop 1 p cs) ∙ ap (drop 1) e

module _ (cs : List Cell) (small : length cs ≤ 1568) where
  module _ (ρ : ℕ → Term) (val : Values term_algebra (graph cs) ρ) (vars : (v : ℕ) → ρ (1568 + v) ≡ var v) where
    read_var : (x p : ℕ) (post : List Cell) → drop p cs ≡ flat (var x) ++ post → ρ (node_at cs p) ≡ var x
    read_var x p post e =
        let f = first_cell cs p (record { tag = 0; form = 0; arity = 0; value = x }) post e in
        rw f.1 (vars x)

    read_con : (f v p : ℕ) (post : List Cell) → drop p cs ≡ flat (con f v) ++ post → ρ (node_at cs p) ≡ con f v
    read_con f v p post e =
        let c = first_cell cs p (record { tag = 1; form = f; arity = 0; value = v }) post e in
        let t : (get_or cs p blank).tag ≡ 1 = ap (λ x. x.tag) c.1 in
        let g = graph_atom cs p c.0 (λ z. omega arith) in
        let g' : graph cs p ≡ atom f v = g ∙ ap (λ x. atom x.form x.value) c.1 in
        rw (ne_eqb (get_or cs p blank).tag 0 (λ z. omega arith)) (val.atoms p f v g')

    read_fun : (s p : ℕ) (ts : Terms) (post : List Cell) → drop p cs ≡ flat (fun s ts) ++ post → pack (map ρ (arguments cs (count ts) (p + 1))) ≡ ts → ρ (node_at cs p) ≡ fun s ts
    read_fun s p ts post e ih =
        let c = first_cell cs p (record { tag = 2; form = 0; arity = count ts; value = s }) (flats ts ++ post) e in
        let t : (get_or cs p blank).tag ≡ 2 = ap (λ x. x.tag) c.1 in
        let g = graph_app cs p c.0 t in
        let g' : graph cs p ≡ app s (arguments cs (count ts) (p + 1)) = g ∙ ap (λ x. app x.value (arguments cs x.arity (p + 1))) c.1 in
        rw (ne_eqb (get_or cs p blank).tag 0 (λ z. omega arith)) (val.apps p s (arguments cs (count ts) (p + 1)) g' ∙ ap (fun s) ih)

    mutual
      read_flat : (t : Term) (p : ℕ) (post : List Cell) → drop p cs ≡ flat t ++ post → ρ (node_at cs p) ≡ t
      read_flat (var x) p post e = read_var x p post e
      read_flat (con f v) p post e = read_con f v p post e
      read_flat (fun s ts) p post e = read_fun s p ts post e (read_flats ts (p + 1) post (rest_cells cs p (record { tag = 2; form = 0; arity = count ts; value = s }) (flats ts ++ post) e))

      read_flats : (ts : Terms) (p : ℕ) (post : List Cell) → drop p cs ≡ flats ts ++ post → pack (map ρ (arguments cs (count ts) p)) ≡ ts
      read_flats none p post e = refl
      read_flats (more t ts) p post e =
          let e' : drop p cs ≡ flat t ++ (flats ts ++ post) = e ∙ append_assoc (flat t) (flats ts) post in
          let a = read_flat t p (flats ts ++ post) e' in
          let b = read_flats ts (after cs p) post (after_flat cs p t (flats ts ++ post) e') in
          cc

  -- the term that stands at p is its node's term
  pub stands_decode : (p : ℕ) (t : Term) → Stands cs p t → decode 1568 (graph cs) (node_at cs p) ≡ t
  stands_decode p t st =
      let fw = cells_forward cs small in
      read_flat (decode 1568 (graph cs)) (value_values 1568 (graph cs) fw term_algebra var)
      (λ v. value_free 1568 (graph cs) fw term_algebra var (1568 + v) (fw.variables (1568 + v) (omega arith)) ∙ (let z : 1568 + v - 1568 ≡ v = omega arith in ap var z))
      t p st.0 st.1
