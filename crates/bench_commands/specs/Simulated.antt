-- The output of the command that plays a schedule, and its exit status.
use Rattle.std.specs.Prelude.{◌≡◌, ◌≢◌, ◌⊎◌, ℕ, List, [], ◌++◌, codes, decimal}
use Rattle.model.specs.declared.AnyOp.{AnyOp}
use Rattle.model.specs.declared.AnyReply.{AnyReply}
use Rattle.edn_reader.specs.Faults as edn
use Rattle.recorder.specs.Records.{Recorded}
use Rattle.simulation.specs.Faults.{schedule_fault_number}
use Rattle.simulation.specs.Simulations.{IsSimulated, IsSimulationFault}
use Rattle.simulation.specs.declared.simulating.SimulationFault.{SimulationFault}
use Rattle.simulation.specs.declared.simulating.SimulationFault.TheVariants.{Text, Form, NotEnded}
use Rattle.simulation.specs.declared.simulating.SimulationFault.TheVariants.{NoMemory}
use Rattle.history_commands.specs.Outputs.{IsExactly}
use Rattle.history_commands.specs.declared.status.Status.{Status}
use Rattle.history_commands.specs.declared.status.Status.TheVariants as status_is
use Rattle.bench_commands.specs.Runs.{IsAcceptedOutput, IsReported, journals_of, logs_of}

-- how many steps were not possible at their turn
abbrev pub refused_line : ℕ → List ℕ
refused_line n = codes "; refused steps: " ++ (decimal n ++ codes "\n")

-- the line that says why there is no record; an allocation failure has none
abbrev pub simulation_fault_line : SimulationFault → List ℕ
simulation_fault_line (Text e) =
    codes "malformed schedule: E"
    ++ (decimal (edn.number_of e.kind) ++ (codes " at byte " ++ (decimal e.place ++ codes "\n")))
simulation_fault_line (Form f) =
    codes "malformed schedule: S"
    ++ (decimal (schedule_fault_number f.kind)
    ++ (codes " at form " ++ (decimal f.form ++ codes "\n")))
simulation_fault_line (NotEnded c) = codes "client " ++ (decimal c ++ codes " has not ended\n")
simulation_fault_line NoMemory = []

-- The output for a schedule's text: the history, the refused steps, the certificates and the
-- verdict
-- of the record that it gives, or the line that says why there is none.
abbrev pub IsSimulateOutput : List ℕ → Status → List ℕ → Type 0
IsSimulateOutput text status out =
    ((refused : ℕ) × (r : Recorded AnyOp AnyReply) × IsSimulated text refused r
    × IsReported (journals_of r) (logs_of r) (refused_line refused) status out)
    ⊎ ((f : SimulationFault) × IsSimulationFault text f
    × IsExactly status_is.Malformed (simulation_fault_line f) status out)

-- The text gives a record, the certificates of which are accepted, and its lines, with how many
-- steps were refused.
pub record IsAcceptedSimulation (text out : List ℕ) : Type 0 where
  pub refused : ℕ
  pub recorded : Recorded AnyOp AnyReply
  pub simulated : IsSimulated text refused recorded
  pub lines : IsAcceptedOutput (journals_of recorded) (logs_of recorded) (refused_line refused) out

-- What the play of a schedule gives: a yes comes with a record, the certificates of which are
-- accepted, and it is never a no.
pub record IsSimulation (text : List ℕ) (status : Status) (out : List ℕ) : Type 0 where
  pub output : IsSimulateOutput text status out
  pub accepted : status ≡ status_is.Yes → IsAcceptedSimulation text out
  pub never_no : status ≢ status_is.No
