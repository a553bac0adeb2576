use Rattle.std.proofs.Common.{arith}
use Rattle.clauses.specs.PairsLemmas.{length_joint}
use Rattle.clauses.proofs.pair.PairSource.count.Goals as goal

pub returns : goal.returns
returns g c =
    let e = length_joint (g.A.Source.clauses c.args.self.now.first c.args.predicate.symbol c.args.predicate.arity) (g.B.Source.clauses c.args.self.now.second c.args.predicate.symbol c.args.predicate.arity) in
    omega arith
