use Rattle.std.proofs.Common.{◌+◌, ◌≤◌, length, vec_items, vec_len, sym, ap, ◌∙◌, arith}
use Rattle.std.proofs.lemmas.Bool.{cond-true}
use Rattle.graphs.specs.Cells.{all_fit}
use Rattle.graphs.proofs.Wholes.{fit_append}
use Rattle.unification.proofs.arena.Arena.append.Goals as goal

pub invariant_of-self : goal.invariant_of-self
invariant_of-self c =
    let a = c.args.self.now in let more = c.args.cells.now in
    let cap = c.extend_from_slice.ensures.capacity in let space = a.space in let few = a.few in let okc = a.cells.ok.0 in
    let room : vec_len a.cells + length more ≤ 1568 = omega arith in
    let ok = c.extend_from_slice.ensures.succeeds (omega arith) in
    let items = c.extend_from_slice.ensures.items ∙ cond-true _ _ _ ok in
    let len = c.extend_from_slice.ensures.len ∙ cond-true _ _ _ ok in
    record { few = omega arith; space = omega arith; fit = ap all_fit items ∙ fit_append (vec_items a.cells) more a.fit (sym c.if-not-all_fit.ensures) }
