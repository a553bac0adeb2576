use Rattle.records.proofs.Parting.{parting_law}
use Rattle.records.proofs.scan.parting_stands.Goals as goal

pub returns : goal.returns
returns c = parting_law
