-- What is wrong with the forms of a schedule, and which fault is the first.
use Rattle.std.specs.Prelude.{◌≡◌, ◌≢◌, ℕ, ◌+◌, ◌<◌, ◌≤◌, List, [], ◌∷◌, ◌++◌, length, take, None}
use Rattle.std.specs.Prelude.{All}
use Rattle.edn_reader.specs.Datum.{Datum}
use Rattle.simulation.specs.Schedules.{header_of, step_of}
use Rattle.simulation.specs.declared.fault.ScheduleFault.{ScheduleFault}
use Rattle.simulation.specs.declared.fault.ScheduleFaultKind.{ScheduleFaultKind}
use Rattle.simulation.specs.declared.fault.ScheduleFaultKind.TheVariants.{NoHeader, NotAStep}
use Rattle.simulation.specs.declared.fault.ScheduleFaultKind.TheVariants.{NoMemory}

-- the first form is no header, or there is none
abbrev pub LacksHeader : List Datum → Type 0
LacksHeader [] = Unit {0}
LacksHeader (d ∷ ds) = header_of d ≡ None

-- of the forms after the header, with the numbers from 1 on, this is the first that is no step
pub record IsNoStepAt (ds : List Datum) (place : ℕ) : Type 0 where
  pub earlier : List Datum
  pub form : Datum
  pub later : List Datum
  pub split : ds ≡ earlier ++ form ∷ later
  pub stands_at : length earlier + 1 ≡ place
  pub steps : All (λ d. step_of d ≢ None) earlier
  pub none : step_of form ≡ None

-- Of the forms after the header, with the numbers from 1 on, those up to this one and with it are
-- steps.
pub record AreStepsTo (ds : List Datum) (place : ℕ) : Type 0 where
  pub after_header : 0 < place
  pub there : place ≤ length ds
  pub steps : All (λ d. step_of d ≢ None) (take place ds)

-- This is wrong at this form after the header, with the numbers from 1 on: it is the first that is
-- no step. An allocation failure is at a form up to which all are steps.
abbrev pub StepFaultIs : List Datum → ScheduleFaultKind → ℕ → Type 0
StepFaultIs ds NoHeader n = ⊥
StepFaultIs ds NotAStep n = IsNoStepAt ds n
StepFaultIs ds NoMemory n = AreStepsTo ds n

-- The first form is a header, and each form after it up to this one and with it is a step.
abbrev pub IsSoundTo : List Datum → ℕ → Type 0
IsSoundTo ds n =
    (first : Datum) × (rest : List Datum) × (ds ≡ first ∷ rest) × (header_of first ≢ None)
    × AreStepsTo rest n

-- the fault of a kind is at this form, and none is at an earlier one; an allocation failure, at a
-- form in which nothing is wrong
abbrev pub FaultIs : List Datum → ScheduleFaultKind → ℕ → Type 0
FaultIs ds NoHeader n = LacksHeader ds × (n ≡ 0)
FaultIs ds NotAStep n =
    (first : Datum) × (rest : List Datum) × (ds ≡ first ∷ rest) × (header_of first ≢ None)
    × IsNoStepAt rest n
FaultIs ds NoMemory n = IsSoundTo ds n

-- The first fault: that of the first faulty form, or an allocation failure before one was met.
abbrev pub IsFirstFault : List Datum → ScheduleFault → Type 0
IsFirstFault ds fault = FaultIs ds fault.kind fault.form

-- The number that is printed after the letter S. An allocation failure is never printed.
abbrev pub schedule_fault_number : ScheduleFaultKind → ℕ
schedule_fault_number NoHeader = 1
schedule_fault_number NotAStep = 2
schedule_fault_number NoMemory = 3
