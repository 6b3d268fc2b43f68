use Rattle.locality.proofs.Linearization.{linearizable_from_orders}
use Rattle.locality.proofs.locality_of.Goals as goal

pub returns : goal.returns
returns g c = linearizable_from_orders g.O.Objects.objects
