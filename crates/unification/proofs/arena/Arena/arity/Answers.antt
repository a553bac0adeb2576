use Rattle.std.proofs.Common.{get_or, ap, arith}
use Rattle.terms.specs.declared.Cell.{Cell}
use Rattle.graphs.specs.Cells.{blank}
use Rattle.graphs.proofs.Wholes.{all_fits, fits_arity}
use Rattle.unification.specs.State.{cells_in}
use Rattle.unification.proofs.Places.{read_cell}
use Rattle.unification.proofs.arena.Arena.arity.Goals as goal

pub returns-clause-small : goal.returns-clause-small
returns-clause-small c =
    let cs = cells_in c.args.self.now in
    let h = fits_arity (get_or cs c.args.place blank) (all_fits cs c.args.place c.args.self.now.fit) in
    let e = ap (λ (x : Cell). x.arity) (read_cell cs c.args.place c.index.result.now c.index.ensures c.requires) in omega arith
