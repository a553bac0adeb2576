use Rattle.typing.proofs.Examples.{worked}
use Rattle.typing.proofs.worked_examples_stand.Goals as goal

pub returns : goal.returns
returns c = worked
