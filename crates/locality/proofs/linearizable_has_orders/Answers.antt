use Rattle.locality.proofs.OneKind.{orders_of_kinds}
use Rattle.locality.proofs.linearizable_has_orders.Goals as goal

pub returns : goal.returns
returns c = orders_of_kinds
