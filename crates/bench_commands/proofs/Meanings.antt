-- The status of the output of a run, and of a play of a schedule, says what the record shows.
use Rattle.std.proofs.Common.{ℕ, List}
use Rattle.command_line.specs.declared.lines.RunOptions.{RunOptions}
use Rattle.history_commands.specs.declared.status.Status.{Status}
use Rattle.bench_commands.specs.Runs.{IsRunResult, IsRunOutput}
use Rattle.bench_commands.specs.Simulated.{IsSimulation, IsSimulateOutput}
use Rattle.bench_commands.proofs.Accepted.{run_accepted, run_not_no}
use Rattle.bench_commands.proofs.Simulations as simulation

pub is_run : (o : RunOptions) (status : Status) (out : List ℕ) → IsRunOutput o status out → IsRunResult o status out
is_run o status out k =
    record { output = k; accepted = run_accepted o status out k; never_no = run_not_no o status out k }

pub is_simulation : (text : List ℕ) (status : Status) (out : List ℕ) → IsSimulateOutput text status out
    → IsSimulation text status out
is_simulation text status out k = record {
  output = k;
  accepted = simulation.accepts text status out k;
  never_no = simulation.never_no text status out k;
}
