use Rattle.std.proofs.Common.{◌≡◌, slice_get, rules}
use Rattle.std.proofs.lemmas.Option.{gets}
use Rattle.records.specs.Meaning.{list_of}
use Rattle.records.specs.Sourcing.{fact_found}
use Rattle.records.proofs.Records.fact.Goals as goal

pub returns : goal.returns
returns c =
    let p = c.args.predicate in
    let found : c.copied.result ≡ slice_get (list_of c.args.self.now p.symbol p.arity) c.args.number = search (rules, gets) in
    fact_found c.args.self.now p.symbol p.arity c.args.number c.copied.result found
