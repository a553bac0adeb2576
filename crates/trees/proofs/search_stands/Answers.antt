use Rattle.trees.proofs.Summaries.{summary_law}
use Rattle.trees.proofs.Search.{search_law, moves_law, root_law, arity_law}
use Rattle.trees.proofs.search_stands.Goals as goal

pub returns : goal.returns
returns c = (summary_law, search_law, moves_law, root_law, arity_law)
