use Rattle.std.proofs.Common.{sym, ◌∙◌, arith}
use Rattle.unification.specs.State.{cells_in}
use Rattle.unification.proofs.Places.{variable_below}
use Rattle.unification.proofs.arena.Arena.node.Goals as goal

pub returns-in-Some-2-clause-named : goal.returns-in-Some-2-clause-named
returns-in-Some-2-clause-named c =
    let a = c.args.self.now in
    variable_below (cells_in a) (omega (arith, a.few, a.cells.ok.0)) a.fit c.args.place c.in-Some.c (sym c.cell.ensures ∙ c.in-Some.is) c.if-c-ne0.false
