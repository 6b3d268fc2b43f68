-- The output of a command: how it ends, and its lines.
use Rattle.std.specs.Prelude.{◌≡◌, ◌⊎◌, ℕ, Bool, false, List, [], ◌∷◌, ◌++◌, codes, if◌then◌else◌}
use Rattle.std.specs.List.{list_all, list_any}
use Rattle.checker.specs.declared.refusal.Refusal.TheVariants as refusal
use Rattle.report.specs.Lines.{verdict_text}
use Rattle.report.specs.declared.verdict.Verdict.{Verdict}
use Rattle.report.specs.declared.verdict.Verdict.TheVariants as verdict
use Rattle.history_commands.specs.declared.status.Status.{Status}
use Rattle.history_commands.specs.declared.status.Status.TheVariants.{Yes, No, Malformed}
use Rattle.history_commands.specs.declared.status.Status.TheVariants.{Undecided, OutOfMemory}
use Rattle.history_commands.specs.declared.status.Status.TheVariants.{NoThread, Failed, Usage}

-- the number of the exit status
abbrev pub status_number : Status → ℕ
status_number Yes = 0
status_number No = 1
status_number Malformed = 2
status_number Undecided = 3
status_number OutOfMemory = 3
status_number NoThread = 3
status_number Failed = 4
status_number Usage = 64

-- How a command ends with a verdict. `judge` never answers a No with the refusal `NoMemory`, but
-- the verdict `NoMemory`.
abbrev pub status_of : Verdict → Status
status_of (verdict.Yes s) = Yes
status_of (verdict.No refusal.NoMemory) = OutOfMemory
status_of (verdict.No r) = No
status_of (verdict.Malformed f) = Malformed
status_of verdict.NoMemory = OutOfMemory

-- how a command on the objects of a history ends: with no, if one is impossible, and with yes,
-- if each has an order
abbrev pub status_by : Bool → Bool → Status
status_by is_any_impossible are_all_found =
    if is_any_impossible then No else if are_all_found then Yes else Undecided

-- How a command ends that answers this on the objects of a history: with no, if one is
-- impossible, and with yes, if each has an order.
abbrev pub status_on : {A : Type 0} → (A → Bool) → (A → Bool) → List (ℕ × A) → Status
status_on is_impossible is_found answers =
    status_by (list_any (λ a. is_impossible a.1) answers) (list_all (λ a. is_found a.1) answers)

-- the lines on all objects, in order
abbrev pub lines_on : {A : Type 0} → (ℕ → A → List ℕ) → List (ℕ × A) → List ℕ
lines_on line [] = []
lines_on line (a ∷ rest) = line a.0 a.1 ++ lines_on line rest

-- these lines, with this status
abbrev pub IsExactly : Status → List ℕ → Status → List ℕ → Type 0
IsExactly own lines status out = (status ≡ own) × (out ≡ lines)

-- one line says that an allocation failed
abbrev pub IsOutOfMemory : Status → List ℕ → Type 0
IsOutOfMemory status out = IsExactly OutOfMemory (codes "out of memory\n") status out

-- the output is the lines of a verdict of which this holds, with its status
abbrev pub IsVerdictOutput : (Verdict → Type 0) → Status → List ℕ → Type 0
IsVerdictOutput IsSaid status out =
    (v : Verdict) × IsSaid v × (status ≡ status_of v) × (out ≡ verdict_text false v)

-- The first holds of the status and the lines; or they are those of a verdict of which the second
-- holds.
abbrev pub IsOutput : (Status → List ℕ → Type 0) → (Verdict → Type 0) → Status → List ℕ → Type 0
IsOutput IsMade IsSaid status out = IsMade status out ⊎ IsVerdictOutput IsSaid status out
