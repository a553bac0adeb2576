use Rattle.frames.proofs.Loading.{fetched}
use Rattle.resolution.proofs.machine.step.fetch.Goals as goal

pub returns-clause-fetched : goal.returns-clause-fetched
returns-clause-fetched g c =
    let list = g.P.Source.clauses c.args.source.now c.args.predicate.symbol c.args.predicate.arity in
    let wrote = c.in-Ok.ensures in
    fetched c.args.predicate.symbol c.args.predicate.arity list c.args.clause c.args.step c.in-Ok.n _ _ _ c.write.new.out c.append.result c.requires.early c.requires.roomy
    (g.met.P.Source.short c.args.source.now c.args.predicate.symbol c.args.predicate.arity)
    (g.met.P.Source.formed c.args.source.now c.args.predicate.symbol c.args.predicate.arity c.args.clause wrote.0)
    wrote.0 wrote.2 c.base_of-base.result c.base_of-base.ensures wrote.4 c.append.ensures.value c.append.ensures.cells
