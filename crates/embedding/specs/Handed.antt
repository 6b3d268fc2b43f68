-- What is handed to the caller.
use Rattle.std.specs.Prelude.{◌≡◌, ◌⊎◌, ◌++◌, ℕ, List, codes, length, take, drop, min}
use Rattle.history_commands.specs.Outputs.{status_number}
use Rattle.history_commands.specs.declared.status.Status.{Status}
use Rattle.history_commands.specs.declared.status.Status.TheVariants.{OutOfMemory}

-- The beginning of the caller's buffer is the text, or as much of it as there is room for, and the
-- rest of the buffer is as before. The caller is told how long the text is.
pub record IsHandedOut (text before after : List ℕ) (told : ℕ) : Type 0 where
  pub written : after ≡ take (min (length text) (length before)) text
      ++ drop (min (length text) (length before)) before
  pub needed : told ≡ length text

-- `IsOutput` holds of a status, whose number is the result, and of a text that is handed out; or an
-- allocation for the text failed, and one line says so.
abbrev pub IsAnswered : (Status → List ℕ → Type 0) → ℕ → List ℕ → List ℕ → ℕ → Type 0
IsAnswered IsOutput result before after told =
    ((status : Status) × (text : List ℕ) × IsOutput status text × (result ≡ status_number status)
    × IsHandedOut text before after told)
    ⊎ ((result ≡ status_number OutOfMemory)
    × IsHandedOut (codes "out of memory\n") before after told)
