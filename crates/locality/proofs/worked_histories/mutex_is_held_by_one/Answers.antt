use Rattle.locality.proofs.RefutedOrders.{mutex_passed_on-acquire_of_held}
use Rattle.locality.proofs.WorkedOrders.{mutex_passed_on-history, mutex_passed_on-valid, mutex_passed_on-linearizable}
use Rattle.locality.proofs.worked_histories.mutex_is_held_by_one.Goals as goal

pub returns : goal.returns
returns c = record {
  history = mutex_passed_on-history;
  valid = mutex_passed_on-valid;
  refuses_acquire_of_held = mutex_passed_on-acquire_of_held;
  linearizable = mutex_passed_on-linearizable;
}
