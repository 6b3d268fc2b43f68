-- What is wrong with a history's text, and how far it is read.
use Rattle.std.specs.Prelude.{◌≡◌, ◌≢◌, ℕ, ◌+◌, ◌<◌, ◌⊎◌, List, length, take, Option, Some, None}
use Rattle.edn_reader.specs.Datum.{Datum}
use Rattle.edn_reader.specs.Sound.{IsReadingFault, IsShort, IsSoundAt, SpellsWithFault}
use Rattle.edn_reader.specs.Spells.{Spells}
use Rattle.events.specs.declared.event.Event.{Event}
use Rattle.history.specs.declared.seen.Seen.{Seen}
use Rattle.history.specs.declared.fault.HistoryFault.{HistoryFault}
use Rattle.history.specs.declared.fault.HistoryFaultKind.TheVariants.{NoMemory}
use Rattle.history.specs.declared.fault.TextFault.{TextFault}
use Rattle.history.specs.declared.fault.TextFault.TheVariants.{Text, Maps}
use Rattle.history.specs.declared.text_reader.Reading.{Reading}
use Rattle.history.specs.Faults.{HasNoHistoryFault, IsFirstFault}
use Rattle.history.specs.Denotes.{events_of_forms}
use Rattle.history.specs.Seen.{IsSeen}

-- Nothing is wrong with the text of a history as far as it was looked at: up to a token and with
-- it, or, if it spells forms, up to one of them and with it.
abbrev pub IsHistorySound : List ℕ → Type 0
IsHistorySound h =
    IsShort h
    × (((place : ℕ) × IsSoundAt place h)
    ⊎ ((ds : List Datum) × Spells ds h × (map : ℕ) × (map < length ds)
    × HasNoHistoryFault (take (map + 1) ds)))

-- The first fault of the forms; or an allocation failed for one of them, and up to it and with it
-- there is none.
abbrev pub IsHistoryFaultIn : List Datum → HistoryFault → Type 0
IsHistoryFaultIn ds f =
    (f.kind ≢ NoMemory → IsFirstFault ds f)
    × (f.kind ≡ NoMemory → (f.map < length ds) × HasNoHistoryFault (take (f.map + 1) ds))

-- The text is unreadable, or an allocation failed for a token; or it is short and spells forms in
-- which this was found.
abbrev pub IsHistoryTextFault : List ℕ → TextFault → Type 0
IsHistoryTextFault text (Text e) = IsReadingFault text e
IsHistoryTextFault text (Maps f) = SpellsWithFault IsHistoryFaultIn text f

-- ---- the maps so far

-- These forms were read without a fault: this is their number, these are their events, and `seen`
-- is what is kept of them.
pub record AreEventsRead (seen : Seen) (number : ℕ) (ds : List Datum) (es : List Event) :
    Type 0 where
  pub kept : IsSeen seen ds
  pub faultless : HasNoHistoryFault ds
  pub events : es ≡ events_of_forms 0 ds
  pub count : length ds ≡ number

-- these forms were read without a fault, or this is the fault that was found in them
abbrev pub AreEventsReadOrFaulty : Option HistoryFault → Seen → ℕ → List Datum → List Event → Type 0
AreEventsReadOrFaulty None seen number ds es = AreEventsRead seen number ds es
AreEventsReadOrFaulty (Some f) seen number ds es = IsHistoryFaultIn ds f

-- what the reader has after these forms: their events, and what it keeps of them, or a fault
abbrev pub IsHistoryReading : Reading → List Datum → Type 0
IsHistoryReading r ds = AreEventsReadOrFaulty r.fault r.seen r.map ds r.events.items
