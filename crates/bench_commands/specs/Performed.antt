-- What the bench does for each command line.
use Rattle.std.specs.Prelude.{◌≡◌, ◌⊎◌, ℕ, Bool, true, false, List, Option}
use Rattle.command_line.specs.declared.lines.Line.{Line}
use Rattle.command_line.specs.declared.lines.Line.TheVariants.{Check, Search, Run, Simulate}
use Rattle.history_commands.specs.Checked.{IsCheck}
use Rattle.history_commands.specs.Outputs.{IsOutOfMemory}
use Rattle.history_commands.specs.Searches.{IsSearchResult}
use Rattle.history_commands.specs.declared.status.Status.{Status}
use Rattle.file_commands.specs.OnFiles.{OnText, OnTexts}
use Rattle.bench_commands.specs.Runs.{IsRunResult}
use Rattle.bench_commands.specs.Simulated.{IsSimulation}

-- The status and the lines are an output of the command that the line gives, on the texts of its
-- first and second file; or one line says that an allocation failed. A check says so by its
-- verdict.
abbrev pub IsPerformed : Line → List ℕ → List ℕ → Status → List ℕ → Type 0
IsPerformed (Check line) first second status out = IsCheck first second status out
IsPerformed (Search line) first second status out =
    IsSearchResult first line.steps status out ⊎ IsOutOfMemory status out
IsPerformed (Run options) first second status out =
    IsRunResult options status out ⊎ IsOutOfMemory status out
IsPerformed (Simulate schedule) first second status out =
    IsSimulation first status out ⊎ IsOutOfMemory status out

-- The command that the line gives was done on the texts of its files. A file that it does not have
-- is left as it was.
abbrev pub IsPerformedOn : Line → Option (List ℕ) → Option (List ℕ) → Option (List ℕ)
    → Option (List ℕ) → Status → List ℕ → Type 0
IsPerformedOn (Check line) first first_after second second_after status out =
    OnTexts IsCheck first first_after second second_after status out
IsPerformedOn (Search line) first first_after second second_after status out =
    OnText (λ text. IsSearchResult text line.steps) first first_after status out
    × (second_after ≡ second)
IsPerformedOn (Run options) first first_after second second_after status out =
    (IsRunResult options status out ⊎ IsOutOfMemory status out)
    × (first_after ≡ first) × (second_after ≡ second)
IsPerformedOn (Simulate schedule) first first_after second second_after status out =
    OnText IsSimulation first first_after status out × (second_after ≡ second)

-- whether the exit status 0 of the command says that the history is linearizable
abbrev pub says_yes : Line → Bool
says_yes (Check line) = true
says_yes (Search line) = true
says_yes (Run options) = false
says_yes (Simulate schedule) = false

-- whether the exit status 1 of the command says that the history is not linearizable
abbrev pub says_no : Line → Bool
says_no (Check line) = false
says_no (Search line) = true
says_no (Run options) = false
says_no (Simulate schedule) = false
