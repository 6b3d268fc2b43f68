use Rattle.locality.proofs.WorkedOrders.{dequeued_while_pending-history, dequeued_while_pending-valid}
use Rattle.locality.proofs.WorkedOrders.{dequeued_while_pending-linearizable}
use Rattle.locality.proofs.worked_histories.pending_operation_may_take_effect.Goals as goal

pub returns : goal.returns
returns c = record {
  history = dequeued_while_pending-history;
  valid = dequeued_while_pending-valid;
  linearizable = dequeued_while_pending-linearizable;
}
