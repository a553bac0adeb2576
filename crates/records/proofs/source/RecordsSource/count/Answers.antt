use Rattle.std.proofs.Common.{length, sym, ap, ◌∙◌}
use Rattle.records.specs.Sourcing.{clauses_count}
use Rattle.records.proofs.source.RecordsSource.count.Goals as goal

pub returns : goal.returns
returns c = ap length c.listing.ensures ∙ sym (clauses_count c.args.self.now c.args.predicate.symbol c.args.predicate.arity)
