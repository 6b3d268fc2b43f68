use Rattle.locality.proofs.RefutedOrders.{overlapping_enqueues-wrong_reply}
use Rattle.locality.proofs.WorkedOrders.{overlapping_enqueues-history, overlapping_enqueues-valid}
use Rattle.locality.proofs.WorkedOrders.{overlapping_enqueues-linearizable}
use Rattle.locality.proofs.worked_histories.overlapping_operations_may_change_places.Goals as goal

pub returns : goal.returns
returns c = record {
  history = overlapping_enqueues-history;
  valid = overlapping_enqueues-valid;
  linearizable = overlapping_enqueues-linearizable;
  refuses_wrong_reply = overlapping_enqueues-wrong_reply;
}
