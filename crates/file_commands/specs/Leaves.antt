-- What a command leaves.
use Rattle.std.specs.Prelude.{◌≡◌, ◌≢◌, ℕ, Bool, true, false, List, Option, Result, Ok, Err}
use Rattle.std.specs.Io.KnownBytes.{Appends}
use Rattle.std.specs.declared.alloc.AllocError.{AllocError}
use Rattle.edn.specs.Sent.{WritesPrefix}
use Rattle.history_commands.specs.Outputs.{IsExactly, IsOutOfMemory, status_number}
use Rattle.history_commands.specs.declared.output.Output.{Output}
use Rattle.history_commands.specs.declared.status.Status.{Status}
use Rattle.history_commands.specs.declared.status.Status.TheVariants.{Failed}

-- What a command leaves. Its output is a status and lines of which `IsOutput` holds. What the sink
-- was sent is given as it was before and after, and whether the sink is then broken. The number is
-- the exit status.
pub record Leaves (IsOutput : Status → List ℕ → Type 0) (sent_before : Option (List ℕ)) (number : ℕ)
    (sent : Option (List ℕ)) (broken : Bool) : Type 0 where
  -- the lines were written, and the number is that of their status
  pub written : number ≢ status_number Failed → (status : Status) × (out : List ℕ)
      × IsOutput status out × (number ≡ status_number status) × Appends sent_before sent out
  -- unless the exit status says that the output failed, the sink has not
  pub usable : number ≢ status_number Failed → broken ≡ false
  -- if it says so, the sink failed
  pub failed : number ≡ status_number Failed → broken ≡ true
  -- and a prefix of such lines was written
  pub front : number ≡ status_number Failed → (status : Status) × (out : List ℕ)
      × IsOutput status out × WritesPrefix sent_before sent out

-- the output that was made, or one line that says that an allocation failed
abbrev pub IsMade : Result Output AllocError → Status → List ℕ → Type 0
IsMade (Ok o) status out = IsExactly o.status o.text.items status out
IsMade (Err e) status out = IsOutOfMemory status out
