-- A record: what each client did, and the log of each object.
use Rattle.std.specs.Prelude.{ℕ, List, [], map, slice_index_or}
use Rattle.std.specs.declared.vec.Vec.{Vec}
use Rattle.desk_model.specs.declared.LogEntry.{LogEntry}
use Rattle.desk_model.specs.declared.JournalEvent.{JournalEvent}

-- a record: the journals by the number of the client, and the logs by the number of the object
pub record Recorded (O R : Type 0) : Type 0 where
  pub journals : List (List (JournalEvent O R))
  pub logs : List (List (LogEntry O R))

-- the elements of each of these vectors
abbrev pub items_of_each : {A Z : Type 0} → List (Vec A Z) → List (List A)
items_of_each vs = map (λ v. v.items) vs

-- the record of these journals and these logs
abbrev pub recorded : {O R Y Z : Type 0} → List (Vec (JournalEvent O R) Y)
    → List (Vec (LogEntry O R) Z) → Recorded O R
recorded journals logs = record { journals = items_of_each journals; logs = items_of_each logs }

module _ {O R : Type 0} where
  -- the journal of client c; empty if the record has none for it
  abbrev pub journal_at : Recorded O R → ℕ → List (JournalEvent O R)
  journal_at r c = slice_index_or r.journals c []

  -- the log of object x; empty if the record has none for it
  abbrev pub log_at : Recorded O R → ℕ → List (LogEntry O R)
  log_at r x = slice_index_or r.logs x []
