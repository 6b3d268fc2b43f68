use Rattle.locality.proofs.RefutedOrders.{dequeued_out_of_turn-history, dequeued_out_of_turn-refuted}
use Rattle.locality.proofs.RefutedOrders.{dequeued_out_of_turn-no_order}
use Rattle.locality.proofs.worked_histories.operations_in_turn_keep_their_order.Goals as goal

pub returns : goal.returns
returns c = record {
  history = dequeued_out_of_turn-history;
  not_linearizable = dequeued_out_of_turn-refuted;
  no_order = dequeued_out_of_turn-no_order;
}
