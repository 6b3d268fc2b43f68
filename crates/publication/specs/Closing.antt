-- A closed desk, and what its record takes of it.
use Rattle.std.specs.Prelude.{◌≡◌, ◌≢◌, ℕ, ◌<◌, ◌≤◌, false, List, [], length, slice_index_or}
use Rattle.std.specs.Prelude.{Contains}
use Rattle.std.specs.Slots.{slots_items, slots_filled, slots_len}
use Rattle.std.specs.Slots.Ownership.{Filled}
use Rattle.atomic_table.specs.declared.owned.Closed.{Closed}
use mathlib.Core.Option.{some}
use lib.ListN.{get_elem?}
use Rattle.desk_model.specs.declared.JournalEvent.{JournalEvent}
use Rattle.desk_model.specs.declared.LogEntry.{LogEntry}
use Rattle.desk_invariant.specs.declared.board.Core.{Core}
use Rattle.desk_invariant.specs.declared.board.Journal.{Journal}
use Rattle.desk_invariant.specs.declared.board.Slot.{Slot}
use Rattle.desk_invariant.specs.declared.board.Slot.TheVariants as slot
use Rattle.publication.specs.Handles.{Known}
use Rattle.desk_invariant.specs.Views.{table_slots, journal_slot}

-- the values of all slots
abbrev pub values_of : {X A : Type 0} → Closed X A → List X
values_of left = slots_items left.slots

-- of a closed desk's slots, the values of the first n were taken out, and no others
abbrev pub IsTakenTo : {X A : Type 0} → ℕ → Closed X A → Type 0
IsTakenTo n left =
    (slots_len left.slots ≡ table_slots) × Filled (slots_filled left.slots) n table_slots
    × ((k : ℕ) → k < n → slice_index_or (slots_filled left.slots) k false ≡ false)

module _ {S O R : Type 0} where
  -- slot x has the core of object x
  abbrev pub HasCore : List (Slot S O R) → ℕ → Type 0
  HasCore xs x = (k : Core S O R) × (get_elem? xs x ≡ some (slot.Core k))

  -- the slot for the journal of client c has one
  abbrev pub HasJournal : List (Slot S O R) → ℕ → Type 0
  HasJournal xs c = (j : Journal O R) × (get_elem? xs (journal_slot c) ≡ some (slot.Journal j))

  -- the log of the object x
  abbrev pub IsLogOf : List (Slot S O R) → ℕ → List (LogEntry O R) → Type 0
  IsLogOf xs x log = (k : Core S O R) × (get_elem? xs x ≡ some (slot.Core k)) × (k.log.items ≡ log)

  -- the journal that the client c left
  abbrev pub IsJournalOf : List (Slot S O R) → ℕ → List (JournalEvent O R) → Type 0
  IsJournalOf xs c events =
      (j : Journal O R) × (get_elem? xs (journal_slot c) ≡ some (slot.Journal j))
      × (j.events.items ≡ events)

  -- these are the logs of the first n objects, in order
  abbrev pub AreLogs : ℕ → List (Slot S O R) → List (List (LogEntry O R)) → Type 0
  AreLogs n xs logs =
      (length logs ≡ n) × ((x : ℕ) → x < n → IsLogOf xs x (slice_index_or logs x []))

  -- These are n journals, by the number of the client. From this number on each is the one that its
  -- client left.
  abbrev pub AreJournals : ℕ → ℕ → List (Slot S O R) → List (List (JournalEvent O R)) → Type 0
  AreJournals from n xs journals =
      (length journals ≡ n)
      × ((c : ℕ) → from ≤ c → c < n → IsJournalOf xs c (slice_index_or journals c []))

-- the lists in the first n places are the same in both
abbrev pub IsSameBelow : {A : Type 0} → ℕ → List (List A) → List (List A) → Type 0
IsSameBelow n xs ys = (k : ℕ) → k < n → slice_index_or ys k [] ≡ slice_index_or xs k []

-- the last client knows that each other client below n has ended
abbrev pub HaveEnded : ℕ → Known → Type 0
HaveEnded n last = (c : ℕ) → c < n → c ≢ last.knows.number → Contains last.knows.retired c

-- of what the client knows nothing has changed, except which others have ended
abbrev pub HasLearntEnds : Known → Known → Type 0
HasLearntEnds before after =
    after ≡ record before { knows = record before.knows { retired = after.knows.retired } }
