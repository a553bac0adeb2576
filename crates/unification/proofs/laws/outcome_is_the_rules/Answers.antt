use Rattle.typing.proofs.Orders.{every_order}
use Rattle.unification.proofs.laws.outcome_is_the_rules.Goals as goal

pub returns : goal.returns
returns c kind E o = let w = (every_order kind E).comes_when o in (w.1, w.0)
