use Rattle.locality.proofs.ValidOrders.{each_object_has_an_order}
use Rattle.locality.proofs.linearizable_has_orders_of.Goals as goal

pub returns : goal.returns
returns g c = each_object_has_an_order g.O.Objects.objects
