-- The history of a record: its journals as client events, in order of tickets. And what makes
-- journals and logs a record.
use Rattle.std.specs.Prelude.{◌≡◌, ℕ, ◌<◌, ◌==◌, List, [], ◌∷◌, All, AllPairs, Contains, filter}
use Rattle.std.specs.Prelude.{map, length}
use Rattle.model.specs.declared.AnyOp.{AnyOp}
use Rattle.model.specs.declared.AnyReply.{AnyReply}
use Rattle.desk_model.specs.declared.Answer.TheVariants.{Reply, Refused}
use Rattle.desk_model.specs.declared.JournalEvent.TheVariants.{Invoked, Returned}
use Rattle.desk_model.specs.World.{AnyAnswer, AnyEntry, AnyEvent}
use Rattle.desk_model.specs.Images.{entry_in, event_in}
use Rattle.events.specs.declared.event.Action.{Action}
use Rattle.events.specs.declared.event.Action.TheVariants.{Invoke, Ok, Fail}
use Rattle.events.specs.declared.event.Event.{Event}
use Rattle.events.specs.Events.{IsProper}
use Rattle.recorder.specs.Records.{Recorded, journal_at, log_at}

-- what an answer says about its operation: that it returned this reply, or that it did not happen,
-- if an allocation failed
abbrev pub action_of : AnyAnswer → Action
action_of (Reply r) = Ok r
action_of Refused = Fail

-- The client events of a journal of the client c, whose last call before was on the object x. A
-- client is a process, and a ticket is a number. A return is on the object of its call.
abbrev pub events_of_journal : ℕ → ℕ → List AnyEvent → List Event
events_of_journal c x [] = []
events_of_journal c x (Invoked t y op ∷ es) =
    record { number = t; process = c; object = y; action = Invoke op } ∷ events_of_journal c y es
events_of_journal c x (Returned u a ∷ es) =
    record { number = u; process = c; object = x; action = action_of a } ∷ events_of_journal c x es

-- the client events of a journal. A return before any call counts for object 0; no record has one
abbrev pub events_of : ℕ → List AnyEvent → List Event
events_of c journal = events_of_journal c 0 journal

-- The client events of the journals, in order of tickets: the numbers rise, and the events of each
-- client are those of its journal.
pub record AreEventsOf (journals : ℕ → List AnyEvent) (es : List Event) : Type 0 where
  pub rising : AllPairs (λ a b. a.number < b.number) es
  pub each : (c : ℕ) → filter (λ e. e.process == c) es ≡ events_of c (journals c)

-- some call in the journals is on the object
pub record IsNamedIn (journals : ℕ → List AnyEvent) (x : ℕ) : Type 0 where
  pub client : ℕ
  pub ticket : ℕ
  pub op : AnyOp
  pub stands : Contains (journals client) (Invoked ticket x op)

-- tickets are below this: 64 for each call of the greatest quota
abbrev pub max_tickets : ℕ
max_tickets = 640000

-- Journals and the logs of this many objects are a record.
pub record IsRecord (objects : ℕ) (journals : ℕ → List AnyEvent) (logs : ℕ → List AnyEntry) : Type 0
  where
    -- no ticket is in the journals twice, and in order of tickets their events are proper
    pub events : List Event
    pub are_events : AreEventsOf journals events
    pub proper : IsProper events
    -- all tickets are below the greatest number of them
    pub few : All (λ e. e.number < max_tickets) events
    pub few_logged : (x : ℕ) → All (λ e. e.ticket < max_tickets) (logs x)
    -- each object that a journal names has a log
    pub on_objects : All (λ e. e.object < objects) events

module _ {O R : Type 0} (op_in : O → AnyOp) (reply_in : R → AnyReply) (r : Recorded O R) where
  -- the journal of client c in the record, of operations and replies of all kinds
  abbrev pub journals_in : ℕ → List AnyEvent
  journals_in c = map (event_in op_in reply_in) (journal_at r c)

  -- the log of object x in the record, of operations and replies of all kinds
  abbrev pub logs_in : ℕ → List AnyEntry
  logs_in x = map (entry_in op_in reply_in) (log_at r x)

  -- the journals and the logs of the record are one (`IsRecord`), of as many objects as there are
  -- logs
  abbrev pub IsRecordOf : Type 0
  IsRecordOf = IsRecord (length r.logs) journals_in logs_in
