use Rattle.std.proofs.Common.{arith}
use Rattle.machine.proofs.WorldRuns.{run_few}
use Rattle.machine.proofs.machine.Machine.next_ticket.Goals as goal

pub overflow_add-result : goal.overflow_add-result
overflow_add-result g c = omega (arith, run_few _ _ _ _ c.self.invariant.run, c.self.invariant.few_calls)
