use Rattle.std.proofs.Common.{ap, ◌∙◌}
use Rattle.clauses.specs.Pairs.{place_of}
use Rattle.clauses.specs.PairsLemmas.{placed_of}
use Rattle.clauses.proofs.pair.Pair.place.Goals as goal

pub returns : goal.returns
returns g c =
    let xs = g.A.Source.clauses c.args.self.now.first c.args.predicate.symbol c.args.predicate.arity in
    let ys = g.B.Source.clauses c.args.self.now.second c.args.predicate.symbol c.args.predicate.arity in (
      placed_of xs ys c.count.result c.args.number c.place_after.result c.count.ensures c.place_after.ensures,
      c.place_after.ensures ∙ ap (λ n. place_of n c.args.number) c.count.ensures,
    )
