use Rattle.std.proofs.Common.{vec_items, ap, ◌∙◌, arith}
use Rattle.graphs.specs.Cells.{all_fit}
use Rattle.graphs.proofs.Wholes.{fit_take}
use Rattle.unification.proofs.arena.Arena.truncate.Goals as goal

pub invariant_of-self : goal.invariant_of-self
invariant_of-self c =
    let a = c.args.self.now in
    let few = a.few in let space = a.space in let cap = c.truncate.ensures.capacity in let len = c.truncate.ensures.len in
    record { few = omega arith; space = omega arith; fit = ap all_fit c.truncate.ensures.items ∙ fit_take c.args.to (vec_items a.cells) a.fit }
