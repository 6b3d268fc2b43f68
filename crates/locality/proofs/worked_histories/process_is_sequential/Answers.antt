use Rattle.locality.proofs.RefutedOrders.{invoked_while_pending-refused, returned_unasked-refused}
use Rattle.locality.proofs.RefutedOrders.{returned_elsewhere-refused, numbered_backwards-refused}
use Rattle.locality.proofs.worked_histories.process_is_sequential.Goals as goal

pub returns : goal.returns
returns c = record {
  refuses_second_invocation = invoked_while_pending-refused;
  refuses_stray_response = returned_unasked-refused;
  refuses_other_object = returned_elsewhere-refused;
  refuses_falling_numbers = numbered_backwards-refused;
}
