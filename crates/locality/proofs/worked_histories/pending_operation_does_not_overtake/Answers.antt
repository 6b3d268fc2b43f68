use Rattle.locality.proofs.AsWritten.{overtaken-as_written}
use Rattle.locality.proofs.RefutedOrders.{pending_overtakes_returned-history, pending_overtakes_returned-refuted}
use Rattle.locality.proofs.worked_histories.pending_operation_does_not_overtake.Goals as goal

pub returns : goal.returns
returns c = record {
  history = pending_overtakes_returned-history;
  not_linearizable = pending_overtakes_returned-refuted;
  as_written = overtaken-as_written;
}
