use Rattle.trees.proofs.Claims.{tree_theory}
use Rattle.trees.proofs.tree_stands.Goals as goal

pub returns : goal.returns
returns c = tree_theory
