use Rattle.locality.proofs.WorkedOrders.{found_empty_while_pending-history, found_empty_while_pending-valid}
use Rattle.locality.proofs.WorkedOrders.{found_empty_while_pending-linearizable}
use Rattle.locality.proofs.worked_histories.pending_operation_may_be_left_out.Goals as goal

pub returns : goal.returns
returns c = record {
  history = found_empty_while_pending-history;
  valid = found_empty_while_pending-valid;
  linearizable = found_empty_while_pending-linearizable;
}
