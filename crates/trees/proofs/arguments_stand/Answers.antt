use Rattle.trees.proofs.Arguments.{arguments_law}
use Rattle.trees.proofs.arguments_stand.Goals as goal

pub returns : goal.returns
returns c = arguments_law
