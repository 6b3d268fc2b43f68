-- The output for a schedule of which there is a record is a yes, except where an allocation fails.
use Rattle.std.proofs.Common.{◌≡◌, ◌≢◌, ℕ, List, inl, inr}
use Rattle.simulation.specs.Plays.{header_kinds}
use Rattle.history_commands.specs.declared.status.Status.{Status}
use Rattle.history_commands.specs.declared.status.Status.TheVariants as status_is
use Rattle.bench_commands.specs.Runs.{journals_of, logs_of}
use Rattle.bench_commands.specs.Simulated.{IsAcceptedSimulation, IsSimulateOutput, refused_line}
use Rattle.bench_commands.proofs.Accepted.{record_accepted, record_not_no}

pub accepts : (text : List ℕ) (status : Status) (out : List ℕ) → IsSimulateOutput text status out
    → status ≡ status_is.Yes → IsAcceptedSimulation text out
accepts text status out (inl h) e = record {
  refused = h.0;
  recorded = h.1;
  simulated = h.2;
  lines = record_accepted (header_kinds h.2.header) h.2.header.quota (journals_of h.1) (logs_of h.1) (refused_line h.0)
      h.2.played.sound status out h.3 e;
}
accepts text status out (inr h) e = absurd cc

pub never_no : (text : List ℕ) (status : Status) (out : List ℕ) → IsSimulateOutput text status out
    → status ≢ status_is.No
never_no text status out (inl h) e = record_not_no (header_kinds h.2.header) h.2.header.quota (journals_of h.1)
    (logs_of h.1) (refused_line h.0) h.2.played.sound status out h.3 e
never_no text status out (inr h) e = absurd cc
