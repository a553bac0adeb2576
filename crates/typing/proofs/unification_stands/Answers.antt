use Rattle.typing.proofs.Orders.{every_order}
use Rattle.typing.proofs.unification_stands.Goals as goal

pub returns : goal.returns
returns c = every_order
