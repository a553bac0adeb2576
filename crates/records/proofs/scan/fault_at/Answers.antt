use Rattle.std.proofs.Common.{ap, ◌∙◌}
use Rattle.std.proofs.lemmas.List.{take_rest}
use Rattle.records.specs.Faults.{fault_in}
use Rattle.records.proofs.scan.fault_at.Goals as goal

pub returns : goal.returns
returns c = c.fault_in.ensures ∙ ap fault_in (take_rest c.args.bytes.now c.args.at)
