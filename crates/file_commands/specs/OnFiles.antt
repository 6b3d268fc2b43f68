-- What a command on a history leaves, by what was read of its files.
use Rattle.std.specs.Prelude.{◌≡◌, ◌⊎◌, ℕ, Bool, true, false, List, Option}
use Rattle.edn.specs.Given.{WasRead}
use Rattle.reading.specs.Reads.{read_limit, WasRefused}
use Rattle.reading.specs.declared.two_texts.WhichSource.{WhichSource}
use Rattle.reading.specs.declared.two_texts.WhichSource.TheVariants.{First, Second}
use Rattle.command_line.specs.declared.lines.FilesLine.{FilesLine}
use Rattle.command_line.specs.declared.lines.FilesLine.TheVariants.{Check, Search, Refute, Verify}
use Rattle.history_commands.specs.Checked.{IsCheck}
use Rattle.history_commands.specs.Outputs.{IsOutOfMemory}
use Rattle.history_commands.specs.Refuted.{IsRefute}
use Rattle.history_commands.specs.Searches.{IsSearchResult}
use Rattle.history_commands.specs.Verified.{IsVerification}
use Rattle.history_commands.specs.declared.status.Status.{Status}

-- A text was read, and this holds of it; or one line says that an allocation failed. What the
-- source has left is given as it was before and after.
abbrev pub OnText : (List ℕ → Status → List ℕ → Type 0) → Option (List ℕ) → Option (List ℕ)
    → Status → List ℕ → Type 0
OnText IsDone before after status out =
    ((text : List ℕ) × WasRead read_limit before after text × IsDone text status out)
    ⊎ IsOutOfMemory status out

-- Two texts were read, and this holds of them; or one line says that an allocation failed. What the
-- sources have left is given as it was before and after.
abbrev pub OnTexts : (List ℕ → List ℕ → Status → List ℕ → Type 0) → Option (List ℕ)
    → Option (List ℕ) → Option (List ℕ) → Option (List ℕ) → Status → List ℕ → Type 0
OnTexts IsDone first_before first_after second_before second_after status out =
    ((first : List ℕ) × (second : List ℕ) × WasRead read_limit first_before first_after first
    × WasRead read_limit second_before second_after second × IsDone first second status out)
    ⊎ IsOutOfMemory status out

-- The command that the line gives was done on the texts of its files. A search has one file: the
-- second is left as it was.
abbrev pub IsPerformedOn : FilesLine → Option (List ℕ) → Option (List ℕ) → Option (List ℕ)
    → Option (List ℕ) → Status → List ℕ → Type 0
IsPerformedOn (Check line) first first_after second second_after status out =
    OnTexts IsCheck first first_after second second_after status out
IsPerformedOn (Search line) first first_after second second_after status out =
    OnText (λ text. IsSearchResult text line.steps) first first_after status out
    × (second_after ≡ second)
IsPerformedOn (Refute line) first first_after second second_after status out =
    OnTexts (λ one other. IsRefute one other line.steps) first first_after second second_after
    status out
IsPerformedOn (Verify line) first first_after second second_after status out =
    OnTexts (λ one other. IsVerification one other line.steps) first first_after second second_after
    status out

-- whether the exit status 0 of the command says that the history is linearizable
abbrev pub says_yes : FilesLine → Bool
says_yes (Check line) = true
says_yes (Search line) = true
says_yes (Refute line) = false
says_yes (Verify line) = true

-- whether the exit status 1 of the command says that the history is not linearizable
abbrev pub says_no : FilesLine → Bool
says_no (Check line) = false
says_no (Search line) = true
says_no (Refute line) = true
says_no (Verify line) = true

-- Which file of a command was not read, and what that leaves: its source failed, since it refused a
-- call. If it is the first, nothing was read of the second; if it is the second, the source of the
-- first has not failed. Nothing was written. What a source has left, whether it is broken, and what
-- it refuses are given for the first and for the second.
pub record IsUnreadFile {F G S : Type 0} (first_left : F → Option (List ℕ))
    (first_broken : F → Bool) (first_refuses : F → ℕ → F → Type 0)
    (second_left : G → Option (List ℕ)) (second_broken : G → Bool)
    (second_refuses : G → ℕ → G → Type 0) (first first_after : F) (second second_after : G)
    (sink sink_after : S) (which : WhichSource) : Type 0 where
  pub unread_first : which ≡ First
      → (first_broken first_after ≡ true) × (second_after ≡ second)
  pub unread_second : which ≡ Second
      → (first_broken first_after ≡ false) × (second_broken second_after ≡ true)
  -- it is named only if its source refused a call
  pub first_refused : which ≡ First → WasRefused first_left first_refuses first first_after
  pub second_refused : which ≡ Second → WasRefused second_left second_refuses second second_after
  pub nothing_written : sink_after ≡ sink

-- The only file of a command was not read: its source failed, since it refused a call. Nothing was
-- written. What the source has left, whether it is broken, and what it refuses are given.
pub record IsUnreadOnly {F S : Type 0} (left : F → Option (List ℕ)) (broken : F → Bool)
    (refuses : F → ℕ → F → Type 0) (file file_after : F) (sink sink_after : S)
    (which : WhichSource) : Type 0 where
  pub first : which ≡ First
  pub failed : broken file_after ≡ true
  pub refused : WasRefused left refuses file file_after
  pub nothing_written : sink_after ≡ sink
