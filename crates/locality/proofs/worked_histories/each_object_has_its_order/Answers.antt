use Rattle.locality.proofs.WorkedOrders.{two_queues-history, two_queues-first, two_queues-second}
use Rattle.locality.proofs.WorkedOrders.{two_queues-linearizable}
use Rattle.locality.proofs.worked_histories.each_object_has_its_order.Goals as goal

pub returns : goal.returns
returns c = record {
  history = two_queues-history;
  first_valid = two_queues-first;
  second_valid = two_queues-second;
  linearizable = two_queues-linearizable;
}
