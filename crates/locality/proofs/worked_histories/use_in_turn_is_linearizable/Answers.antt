use Rattle.locality.proofs.RefutedOrders.{enqueued_then_dequeued-repeated, enqueued_then_dequeued-omitted}
use Rattle.locality.proofs.RefutedOrders.{enqueued_then_dequeued-unknown}
use Rattle.locality.proofs.WorkedOrders.{enqueued_then_dequeued-history, enqueued_then_dequeued-valid}
use Rattle.locality.proofs.WorkedOrders.{enqueued_then_dequeued-linearizable}
use Rattle.locality.proofs.worked_histories.use_in_turn_is_linearizable.Goals as goal

pub returns : goal.returns
returns c = record {
  history = enqueued_then_dequeued-history;
  valid = enqueued_then_dequeued-valid;
  linearizable =
      enqueued_then_dequeued-linearizable;
  refuses_repeated = enqueued_then_dequeued-repeated;
  refuses_omitted = enqueued_then_dequeued-omitted;
  refuses_unknown = enqueued_then_dequeued-unknown;
}
