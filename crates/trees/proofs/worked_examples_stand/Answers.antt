use Rattle.trees.proofs.Worked.{worked}
use Rattle.trees.proofs.worked_examples_stand.Goals as goal

pub returns : goal.returns
returns c = worked
