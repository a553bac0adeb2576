-- How two roots meet, by the cells that are found there.
use Rattle.std.proofs.Common.{◌≡◌, ℕ, ◌+◌, ◌≢◌, List, get_or, Some, sym, ap, ◌∙◌, subst}
use Rattle.terms.specs.declared.Cell.{Cell}
use Rattle.unification.specs.declared.solve.Meet.TheVariants.{Same, Args}
use Rattle.graphs.specs.Terms.{KTerm}
use Rattle.graphs.specs.Graph.{Values, app, atom}
use Rattle.graphs.specs.Meaning.{kind_algebra}
use Rattle.graphs.specs.Cells.{blank, graph, arguments}
use Rattle.graphs.proofs.CellLaws.{graph_app, graph_atom, clash_apps, clash_app_atom, clash_atom_app}
use Rattle.unification.specs.Run.{Meets}
use Rattle.unification.specs.State.{cell_at}
use Rattle.unification.proofs.Places.{cell_found}

pub found_app : (cs : List Cell) (p : ℕ) (x : Cell) → cell_at cs p ≡ Some x → x.tag ≡ 2 → graph cs p ≡ app x.value (arguments cs x.arity (p + 1))
found_app cs p x e = let w = cell_found cs p x e in subst (λ (z : Cell). z.tag ≡ 2 → graph cs p ≡ app z.value (arguments cs z.arity (p + 1))) (sym w.1) (graph_app cs p w.0)

pub found_atom : (cs : List Cell) (p : ℕ) (x : Cell) → cell_at cs p ≡ Some x → x.tag ≢ 2 → graph cs p ≡ atom x.form x.value
found_atom cs p x e = let w = cell_found cs p x e in subst (λ (z : Cell). z.tag ≢ 2 → graph cs p ≡ atom z.form z.value) (sym w.1) (graph_atom cs p w.0)

module _ (kind : ℕ → ℕ → ℕ) (cs : List Cell) (r q : ℕ) (x y : Cell) (there : cell_at cs r ≡ Some x) (here : cell_at cs q ≡ Some y) where
  pub meet_args : x.tag ≡ 2 → y.tag ≡ 2 → x.value ≡ y.value → x.arity ≡ y.arity → Meets kind cs r q (Some (Args x.arity))
  meet_args tx ty v a = (
    x.value,
    (found_app cs r x there tx, found_app cs q y here ty ∙ (ap (λ k. app k (arguments cs y.arity (q + 1))) (sym v) ∙ ap (λ k. app x.value (arguments cs k (q + 1))) (sym a))),
  )

  pub meet_same : x.tag ≢ 2 → y.tag ≢ 2 → x.form ≡ y.form → x.value ≡ y.value → Meets kind cs r q (Some Same)
  meet_same tx ty f v = (x.form, x.value, (found_atom cs r x there tx, found_atom cs q y here ty ∙ (ap (λ k. atom k y.value) (sym f) ∙ ap (atom x.form) (sym v))))

  module _ (ρ : ℕ → KTerm) (val : Values (kind_algebra kind) (graph cs) ρ) (e : ρ r ≡ ρ q) where
    pub apart : x.tag ≡ 2 → y.tag ≡ 2 → ¬ ((x.value ≡ y.value) × (x.arity ≡ y.arity)) → ⊥
    apart =
        let a = cell_found cs r x there in let b = cell_found cs q y here in
        subst (λ (z : Cell). z.tag ≡ 2 → y.tag ≡ 2 → ¬ ((z.value ≡ y.value) × (z.arity ≡ y.arity)) → ⊥) (sym a.1)
        (subst (λ (z : Cell). (get_or cs r blank).tag ≡ 2 → z.tag ≡ 2 → ¬ (((get_or cs r blank).value ≡ z.value) × ((get_or cs r blank).arity ≡ z.arity)) → ⊥) (sym b.1) (clash_apps kind cs r q a.0 b.0 ρ val e))

    pub above_constant : x.tag ≡ 2 → y.tag ≢ 2 → ⊥
    above_constant =
        let a = cell_found cs r x there in let b = cell_found cs q y here in
        subst (λ (z : Cell). z.tag ≡ 2 → y.tag ≢ 2 → ⊥) (sym a.1) (subst (λ (z : Cell). (get_or cs r blank).tag ≡ 2 → z.tag ≢ 2 → ⊥) (sym b.1) (clash_app_atom kind cs r q a.0 b.0 ρ val e))

    pub constant_above : x.tag ≢ 2 → y.tag ≡ 2 → ⊥
    constant_above =
        let a = cell_found cs r x there in let b = cell_found cs q y here in
        subst (λ (z : Cell). z.tag ≢ 2 → y.tag ≡ 2 → ⊥) (sym a.1) (subst (λ (z : Cell). (get_or cs r blank).tag ≢ 2 → z.tag ≡ 2 → ⊥) (sym b.1) (clash_atom_app kind cs r q a.0 b.0 ρ val e))
