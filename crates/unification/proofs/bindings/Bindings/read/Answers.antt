use Rattle.std.proofs.Common.{sym, subst}
use Rattle.unification.specs.Reading.{ReadsVariable}
use Rattle.unification.specs.State.{cells_of, links_of}
use Rattle.unification.proofs.Reading.{read_none, read_some}
use Rattle.unification.proofs.Runs.{few_cells}
use Rattle.unification.proofs.bindings.Bindings.read.Goals as goal

pub returns-in_err-fits-clause-reads : goal.returns-in_err-fits-clause-reads
returns-in_err-fits-clause-reads c =
    let cs = cells_of c.args.self.now in let l = links_of c.args.self.now in
    subst (λ o. ReadsVariable cs l c.args.variable c.args.out.now o c.args.out.now) (sym c.from_residual.ensures)
    (read_none cs (few_cells c.args.self.now.arena) l c.args.variable c.args.out.now c.in_err-fits.ensures.counts)

pub returns-clause-reads : goal.returns-clause-reads
returns-clause-reads c =
    read_some (cells_of c.args.self.now) (few_cells c.args.self.now.arena) (links_of c.args.self.now) c.args.variable c.args.out.now c.in_ok-fits.field-0 c.in_ok-fits.ensures.counts c.write.new.out c.write.result c.write.ensures.writes
