use Rattle.std.proofs.Common.{ℕ, ◌<◌, get_or, arith}
use Rattle.records.specs.Sourcing.{clauses_are}
use Rattle.records.proofs.Fitting.{listing_fit}
use Rattle.records.proofs.Records.new.Goals as goal

pub invariant_of-result : goal.invariant_of-result
invariant_of-result c =
    let bs = c.args.bytes.now in
    let o = λ (j : ℕ). let t = c.type_inv.bytes j in let b : get_or bs j 0 < 256 = omega arith in b in
    record { fit = (listing_fit _ bs _ _ o c.in_ok-lots.ensures, listing_fit _ bs _ _ o c.in_ok-stages.ensures, listing_fit _ bs _ _ o c.in_ok-cycles.ensures) }

pub returns : goal.returns
returns c = clauses_are c.args.symbols c.args.bytes.now _ (record { lots = c.in_ok-lots.ensures; stages = c.in_ok-stages.ensures; cycles = c.in_ok-cycles.ensures })
