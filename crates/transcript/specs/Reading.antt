-- What is promised of the text of a record's history when it is read.
use Rattle.std.specs.Prelude.{ℕ, ◌<◌, ◌≤◌, List, All, length, map, ◌+◌}
use Rattle.edn_reader.specs.Datum.{Datum}
use Rattle.edn_reader.specs.Spells.{Spells}
use Rattle.history.specs.Denotes.{Denotes}
use Rattle.model.specs.declared.Kind.{Kind}
use Rattle.desk_model.specs.World.{AnyEntry, AnyEvent, ticket_of}
use Rattle.desk_model.specs.Sound.{ShareOut}
use Rattle.desk_model.specs.Records.{IsSoundRecord}
use Rattle.events.specs.declared.event.Event.{Event}
use Rattle.edn.specs.Fields.{max_object}
use Rattle.recorder.specs.Histories.{AreEventsOf, IsRecord}
use Rattle.transcript.specs.Written.{IsHistoryText}
use Rattle.desk_model.specs.Limits.{max_calls}

-- the text spells forms that denote these events
pub record DenotesEvents (text : List ℕ) (es : List Event) : Type 0 where
  pub forms : List Datum
  pub spelled : Spells forms text
  pub denoted : Denotes forms es

-- The text of a record's history is read back as its events, if the tickets in the journals are
-- all the numbers below some number, each once, and no object is greater than a text can name.
abbrev pub WrittenDenotes : Type 0
WrittenDenotes = (objects : ℕ) (journals : ℕ → List AnyEvent) (logs : ℕ → List AnyEntry)
    → (r : IsRecord objects journals logs) → (count : ℕ)
    → ShareOut count (λ c. map ticket_of (journals c))
    → All (λ e. e.object ≤ max_object) r.events
    → (text : List ℕ) (es : List Event) → IsHistoryText journals text → AreEventsOf journals es
    → DenotesEvents text es

-- The text of a sound record's history is read back as its events, if there are no more objects
-- than a text can name.
abbrev pub SoundWrittenDenotes : Type 0
SoundWrittenDenotes =
    (kinds : List Kind) (quota : ℕ) (journals : ℕ → List AnyEvent) (logs : ℕ → List AnyEntry)
    → IsSoundRecord kinds quota journals logs → quota < 1 + max_calls → length kinds ≤ 65536
    → (text : List ℕ) (es : List Event) → IsHistoryText journals text → AreEventsOf journals es
    → DenotesEvents text es
