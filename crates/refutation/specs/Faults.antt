-- What can be wrong with the forms of a text of reasons, and which fault of it is the first.
use Rattle.std.specs.Prelude.{◌≡◌, ℕ, List, None}
use Rattle.edn_reader.specs.Datum.{Datum}
use Rattle.edn.specs.FirstFaults.{IsFirstFaultBy, AreSoundBefore}
use Rattle.refutation.specs.Denotes.{reason_in}
use Rattle.refutation.specs.declared.fault.ReasonFaultKind.{ReasonFaultKind}
use Rattle.refutation.specs.declared.fault.ReasonFaultKind.TheVariants.{NotAReason, NoMemory}
use Rattle.refutation.specs.declared.fault.ReasonFault.{ReasonFault}

-- the number that is printed after the letter N
abbrev pub reason_fault_number : ReasonFaultKind → ℕ
reason_fault_number NotAReason = 1
reason_fault_number NoMemory = 2

-- this is wrong with the form: it is not a reason
abbrev pub IsReasonFault : List Datum → Datum → ReasonFaultKind → Type 0
IsReasonFault earlier d NotAReason = reason_in d ≡ None
IsReasonFault earlier d NoMemory = ⊥

-- the first fault: that of the first form that is no reason
abbrev pub IsFirstFault : List Datum → ReasonFault → Type 0
IsFirstFault ds fault = IsFirstFaultBy IsReasonFault reason_fault_number ds fault.form fault.kind

-- there is a form at this place, and nothing is wrong with the forms before it
abbrev pub AreReasonsSoundBefore : List Datum → ℕ → Type 0
AreReasonsSoundBefore ds place = AreSoundBefore IsReasonFault ds place
