use Rattle.std.proofs.Common.{◌≡◌, ℕ, zero, suc, ◌+◌, ◌<◌, ◌≤◌, List, length, get_or, sym, ap, ◌∙◌, subst, arith, eq-eqb, ne_eqb}
use native.Mathlib.Decide.{dec_lt, ℕ_discrete}
use Rattle.std.proofs.lemmas.List.{get_or_past}
use Rattle.terms.specs.declared.Cell.{Cell}
use Rattle.graphs.specs.Graph.{free, atom, app, Each}
use Rattle.graphs.specs.Meaning.{Forward, Live}
use Rattle.graphs.specs.Cells.{blank, node_at, graph, arguments, after}
use Rattle.graphs.proofs.CellLaws.{graph_free, graph_app, graph_atom, app_inside}

module _ (cs : List Cell) (small : length cs ≤ 1568) where
  -- a function's cell, from its shape
  pub app_tag : (p s : ℕ) (ks : List ℕ) → graph cs p ≡ app s ks → (get_or cs p blank).tag ≡ 2
  app_tag p s ks e = go (ℕ_discrete (get_or cs p blank).tag 2)
    where
      go : Dec ((get_or cs p blank).tag ≡ 2) → (get_or cs p blank).tag ≡ 2
      go (yes t) = t
      go (no t) = let g = graph_atom cs p (app_inside cs p s ks e) t in
          let i : app s ks ≡ atom (get_or cs p blank).form (get_or cs p blank).value = sym e ∙ g in let z : ◌≡◌ {A = ℕ} 0 1 = cc in absurd (omega arith)

  pub app_arguments : (p s : ℕ) (ks : List ℕ) → graph cs p ≡ app s ks → ks ≡ arguments cs (get_or cs p blank).arity (p + 1)
  app_arguments p s ks e =
      let g = graph_app cs p (app_inside cs p s ks e) (app_tag p s ks e) in
      let i : app s ks ≡ app (get_or cs p blank).value (arguments cs (get_or cs p blank).arity (p + 1)) = sym e ∙ g in cc

  node_live : (p x : ℕ) → p < 1568 → p < x → (p < node_at cs x) × Live 1568 (graph cs) (node_at cs x)
  node_live p x h l = go (ℕ_discrete (get_or cs x blank).tag 0) (dec_lt x (length cs))
    where
      solid : x < length cs → graph cs x ≡ free → ⊥
      solid i f = at (ℕ_discrete (get_or cs x blank).tag 2)
        where
          at : Dec ((get_or cs x blank).tag ≡ 2) → ⊥
          at (yes t) = let g = sym (graph_app cs x i t) ∙ f in let z : ◌≡◌ {A = ℕ} 0 1 = cc in omega arith
          at (no t) = let g = sym (graph_atom cs x i t) ∙ f in let z : ◌≡◌ {A = ℕ} 0 1 = cc in omega arith

      go : Dec ((get_or cs x blank).tag ≡ 0) → Dec (x < length cs) → (p < node_at cs x) × Live 1568 (graph cs) (node_at cs x)
      go (yes t) d = rw (eq-eqb (get_or cs x blank).tag 0 t) (omega arith, λ _. omega arith)
      go (no t) (yes i) = rw (ne_eqb (get_or cs x blank).tag 0 t) (l, λ f. absurd (solid i f))
      go (no t) (no i) = let e = get_or_past cs x blank (omega arith) in absurd (t (ap (λ c. c.tag) e))

  arguments_live : (p n x : ℕ) → p < 1568 → p < x → Each (λ k. (p < k) × Live 1568 (graph cs) k) (arguments cs n x)
  arguments_live p zero x h l = tt
  arguments_live p (suc n) x h l = (node_live p x h l, arguments_live p n (after cs x) h (omega arith))

  -- every list of cells is a graph whose arguments stand after their symbols
  pub cells_forward : Forward 1568 (graph cs)
  cells_forward = record {
    variables = λ n h. graph_free cs n (omega arith);
    arguments = λ p s ks e.
        let i = app_inside cs p s ks e in
        subst (Each (λ k. (p < k) × Live 1568 (graph cs) k)) (sym (app_arguments p s ks e)) (arguments_live p (get_or cs p blank).arity (p + 1) (omega arith) (omega arith));
  }
