use Rattle.std.proofs.Common.{◌≡◌, ℕ, zero, suc, ◌+◌, ◌-◌, ◌<◌, ◌≤◌, ◌≢◌, List, [], ◌∷◌, map, length, get_or, drop, sym, refl, ap, ◌∙◌, subst, arith, le-ltb, lt-ltb, eq-eqb, ne_eqb}
use lib.ListN.{length-map}
use native.Mathlib.Decide.{dec_lt, ℕ_discrete}
use Rattle.std.proofs.lemmas.List.{get_or_past, drop_more, drop_all, length-drop}
use Rattle.graphs.specs.declared.Pair.{Pair}
use Rattle.terms.specs.declared.Cell.{Cell}
use Rattle.graphs.specs.Terms.{KTerm, base}
use Rattle.graphs.specs.Graph.{free, atom, app, Values, onto}
use Rattle.graphs.specs.Meaning.{kind_algebra, Live}
use Rattle.graphs.specs.Cells.{blank, span, after, node_at, arguments, graph}
use Rattle.graphs.proofs.Instances.{kind_laws}

pub arguments_length : (cs : List Cell) (n p : ℕ) → length (arguments cs n p) ≡ n
arguments_length cs zero p = refl
arguments_length cs (suc n) p = ap suc (arguments_length cs n (after cs p))

module _ (cs : List Cell) (n : ℕ) where
  pub graph_free : length cs ≤ n → graph cs n ≡ free
  graph_free h = rw (le-ltb n (length cs) h)

  pub graph_app : n < length cs → (get_or cs n blank).tag ≡ 2 → graph cs n ≡ app (get_or cs n blank).value (arguments cs (get_or cs n blank).arity (n + 1))
  graph_app h t = rw (lt-ltb n (length cs) h, eq-eqb (get_or cs n blank).tag 2 t)

  pub graph_atom : n < length cs → (get_or cs n blank).tag ≢ 2 → graph cs n ≡ atom (get_or cs n blank).form (get_or cs n blank).value
  graph_atom h t = rw (lt-ltb n (length cs) h, ne_eqb (get_or cs n blank).tag 2 t)

module _ (kind : ℕ → ℕ → ℕ) (cs : List Cell) (r q : ℕ) (hr : r < length cs) (hq : q < length cs) (ρ : ℕ → KTerm) (val : Values (kind_algebra kind) (graph cs) ρ) (e : ρ r ≡ ρ q) where
  pub clash_apps : (get_or cs r blank).tag ≡ 2 → (get_or cs q blank).tag ≡ 2
      → ¬ (((get_or cs r blank).value ≡ (get_or cs q blank).value) × ((get_or cs r blank).arity ≡ (get_or cs q blank).arity)) → ⊥
  clash_apps a b ne =
      let L = kind_laws kind in
      let x = get_or cs r blank in let y = get_or cs q blank in
      let xs = map ρ (arguments cs x.arity (r + 1)) in let ys = map ρ (arguments cs y.arity (q + 1)) in
      let m = sym (val.apps r x.value (arguments cs x.arity (r + 1)) (graph_app cs r hr a)) ∙ (e ∙ val.apps q y.value (arguments cs y.arity (q + 1)) (graph_app cs q hq b)) in
      let i = L.app_symbol x.value y.value xs ys m in
      let j = ap length (L.app_parts x.value y.value xs ys m) in
      let k = length-map (arguments cs x.arity (r + 1)) ρ ∙ arguments_length cs x.arity (r + 1) in
      let l = length-map (arguments cs y.arity (q + 1)) ρ ∙ arguments_length cs y.arity (q + 1) in
      ne (i, sym k ∙ (j ∙ l))

  pub clash_app_atom : (get_or cs r blank).tag ≡ 2 → (get_or cs q blank).tag ≢ 2 → ⊥
  clash_app_atom a b =
      let x = get_or cs r blank in let y = get_or cs q blank in
      (kind_laws kind).app_atom x.value y.form y.value (map ρ (arguments cs x.arity (r + 1)))
      (sym (val.apps r x.value (arguments cs x.arity (r + 1)) (graph_app cs r hr a)) ∙ (e ∙ val.atoms q y.form y.value (graph_atom cs q hq b)))

  pub clash_atom_app : (get_or cs r blank).tag ≢ 2 → (get_or cs q blank).tag ≡ 2 → ⊥
  clash_atom_app a b =
      let x = get_or cs q blank in let y = get_or cs r blank in
      (kind_laws kind).app_atom x.value y.form y.value (map ρ (arguments cs x.arity (q + 1)))
      (sym (val.apps q x.value (arguments cs x.arity (q + 1)) (graph_app cs q hq b)) ∙ (sym e ∙ val.atoms r y.form y.value (graph_atom cs r hr a)))

  pub clash_atoms : (get_or cs r blank).tag ≢ 2 → (get_or cs q blank).tag ≢ 2 → kind (get_or cs r blank).form (get_or cs r blank).value ≢ kind (get_or cs q blank).form (get_or cs q blank).value → ⊥
  clash_atoms a b ne =
      let m = sym (val.atoms r (get_or cs r blank).form (get_or cs r blank).value (graph_atom cs r hr a)) ∙ (e ∙ val.atoms q (get_or cs q blank).form (get_or cs q blank).value (graph_atom cs q hq b)) in
      ne (base-inj (kind (get_or cs r blank).form (get_or cs r blank).value) (kind (get_or cs q blank).form (get_or cs q blank).value) m)
    where
      base-inj : (a b : ℕ) → base a ≡ base b → a ≡ b
      base-inj a b e = cc

-- one cell on
pub span_more : (cs : List Cell) (at need : ℕ) → at < length cs → 0 < need
    → (at + 1) + span (drop (at + 1) cs) (need - 1 + (get_or cs at blank).arity) ≡ at + span (drop at cs) need
span_more cs at zero h l = absurd (omega arith)
span_more cs at (suc m) h l =
    let e = drop_more cs at blank h in
    let z : suc m - 1 ≡ m = omega arith in
    rw (e, z) (omega arith)

pub span_zero : (xs : List Cell) → span xs 0 ≡ 0
span_zero [] = refl
span_zero (x ∷ xs) = refl

pub span_past : (cs : List Cell) (at need : ℕ) → length cs ≤ at → span (drop at cs) need ≡ 0
span_past cs at need h = rw (drop_all at cs h)

span_le : (xs : List Cell) (need : ℕ) → span xs need ≤ length xs
span_le [] need = omega arith
span_le (x ∷ xs) zero = omega arith
span_le (x ∷ xs) (suc need) = let h = span_le xs (need + x.arity) in omega arith

pub after_le : (cs : List Cell) (p m : ℕ) → p ≤ m → length cs ≤ m → after cs p ≤ m
after_le cs p m h l = let s = span_le (drop p cs) 1 in let d = length-drop p cs in omega arith

pub after_past : (cs : List Cell) (p : ℕ) → p < length cs → p < after cs p
after_past cs p h = let e = drop_more cs p blank h in let s : span (drop p cs) 1 ≡ suc (span (drop (p + 1) cs) (0 + (get_or cs p blank).arity)) = rw e in omega arith

-- one pair of arguments is stacked
pub arguments_more : (cs : List Cell) (n i : ℕ) (st rest : List Pair) (x y : ℕ) → i < n
    → onto (arguments cs (n - i) x) (arguments cs (n - i) y) st ≡ rest
    → onto (arguments cs (n - (i + 1)) (after cs x)) (arguments cs (n - (i + 1)) (after cs y)) (record { left = node_at cs x; right = node_at cs y } ∷ st) ≡ rest
arguments_more cs n i st rest x y h e =
    let z : n - i ≡ suc (n - (i + 1)) = omega arith in
    subst (λ m. onto (arguments cs m x) (arguments cs m y) st ≡ rest) z e

pub arguments_none : (cs : List Cell) (n i : ℕ) (x y : ℕ) (st rest : List Pair) → n ≤ i → onto (arguments cs (n - i) x) (arguments cs (n - i) y) st ≡ rest → st ≡ rest
arguments_none cs n i x y st rest h e =
    let z : n - i ≡ 0 = omega arith in
    subst (λ m. onto (arguments cs m x) (arguments cs m y) st ≡ rest) z e

pub app_inside : (cs : List Cell) (r s : ℕ) (ks : List ℕ) → graph cs r ≡ app s ks → r < length cs
app_inside cs r s ks e = go (dec_lt r (length cs))
  where
    go : Dec (r < length cs) → r < length cs
    go (yes h) = h
    go (no h) = let f = graph_free cs r (omega arith) in let i : app s ks ≡ free = sym e ∙ f in let z : ◌≡◌ {A = ℕ} 0 1 = cc in absurd (omega arith)

-- the node of a term is a variable's or a cell's
pub node_alive : (cs : List Cell) → length cs ≤ 1568 → (x : ℕ) → Live 1568 (graph cs) (node_at cs x)
node_alive cs small x = go (ℕ_discrete (get_or cs x blank).tag 0) (dec_lt x (length cs))
  where
    solid : x < length cs → graph cs x ≡ free → ⊥
    solid i f = at (ℕ_discrete (get_or cs x blank).tag 2)
      where
        at : Dec ((get_or cs x blank).tag ≡ 2) → ⊥
        at (yes t) = let g = sym (graph_app cs x i t) ∙ f in let z : ◌≡◌ {A = ℕ} 0 1 = cc in omega arith
        at (no t) = let g = sym (graph_atom cs x i t) ∙ f in let z : ◌≡◌ {A = ℕ} 0 1 = cc in omega arith

    go : Dec ((get_or cs x blank).tag ≡ 0) → Dec (x < length cs) → Live 1568 (graph cs) (node_at cs x)
    go (yes t) d = rw (eq-eqb (get_or cs x blank).tag 0 t) (λ _. omega arith)
    go (no t) (yes i) = rw (ne_eqb (get_or cs x blank).tag 0 t) (λ f. absurd (solid i f))
    go (no t) (no i) = let e = get_or_past cs x blank (omega arith) in absurd (t (ap (λ c. c.tag) e))
