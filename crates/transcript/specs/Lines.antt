-- The lines of a record: each client event with the operation of its call, and the text of a line.
use Rattle.std.specs.Prelude.{◌≡◌, ℕ, ◌+◌, ◌<◌, ◌==◌, false, true, pos, List, [], ◌∷◌, ◌++◌}
use Rattle.std.specs.Prelude.{Option, Some, None, AllPairs, filter, map, codes}
use Rattle.edn_reader.specs.Datum.{Datum, nil, boolean, integer, keyword, atom, vector, dictionary}
use Rattle.edn_reader.specs.Datum.{item, no_items, entry, no_entries}
use Rattle.edn_reader.specs.Text as edn
use Rattle.model.specs.declared.AnyOp.{AnyOp}
use Rattle.seq_objects.specs.Functions.{name_of}
use Rattle.seq_objects.specs.Values.{function_in, op_value, reply_value}
use Rattle.seq_objects.specs.declared.value.Value.{Value}
use Rattle.seq_objects.specs.declared.value.Value.TheVariants.{Nil, False, True, Int, Pair, Triple}
use Rattle.desk_model.specs.declared.JournalEvent.TheVariants.{Invoked, Returned}
use Rattle.desk_model.specs.World.{AnyEvent}
use Rattle.events.specs.declared.event.Action.{Action}
use Rattle.events.specs.declared.event.Action.TheVariants.{Invoke, Ok, Fail, Info}
use Rattle.events.specs.declared.event.Event.{Event}
use Rattle.recorder.specs.Histories.{action_of}
use Rattle.transcript.specs.declared.line.Call.{Call}
use Rattle.transcript.specs.declared.line.Line.{Line}

-- ---- the lines of journals

-- the call that an event of a journal begins, or else the last one
abbrev pub call_after : Option Call → AnyEvent → Option Call
call_after last (Invoked t x op) = Some (record { object = x; op = op })
call_after last (Returned u a) = last

-- an event of the client c, whose call is on the object x
abbrev pub event_of_journal : ℕ → ℕ → AnyEvent → Event
event_of_journal c x (Invoked t y op) = record
    { number = t; process = c; object = y; action = Invoke op }
event_of_journal c x (Returned u a) = record {
  number = u;
  process = c;
  object = x;
  action =
      action_of a;
}

-- the line of an event in the journal of client c, with the call that the event belongs to; none
-- without a call
abbrev pub line_with : ℕ → AnyEvent → Option Call → List Line
line_with c e None = []
line_with c e (Some q) = record { event = event_of_journal c q.object e; op = q.op } ∷ []

-- the lines of a journal of the client c, after this call
abbrev pub journal_lines_from : ℕ → Option Call → List AnyEvent → List Line
journal_lines_from c last [] = []
journal_lines_from c last (e ∷ es) =
    line_with c e (call_after last e) ++ journal_lines_from c (call_after last e) es

-- the lines of the journal of client c
abbrev pub journal_lines : ℕ → List AnyEvent → List Line
journal_lines c journal = journal_lines_from c None journal

-- the lines of journals, the first of which is of the client c
abbrev pub lines_in : ℕ → List (List AnyEvent) → List Line
lines_in c [] = []
lines_in c (j ∷ js) = journal_lines c j ++ lines_in (c + 1) js

-- The lines of the journals in order of tickets.
pub record AreLinesOf (journals : ℕ → List AnyEvent) (ls : List Line) : Type 0 where
  pub rising : AllPairs (λ a b. a.event.number < b.event.number) ls
  pub each : (c : ℕ) → filter (λ l. l.event.process == c) ls ≡ journal_lines c (journals c)

-- the client events of the lines
abbrev pub events_in : List Line → List Event
events_in ls = map (λ l. l.event) ls

-- ---- the text of lines

-- a value in EDN
abbrev pub value_form : Value → Datum
value_form Nil = atom nil
value_form False = atom (boolean false)
value_form True = atom (boolean true)
value_form (Int z) = atom (integer z)
value_form (Pair a b) = vector (item (atom (integer a)) (item (atom (integer b)) no_items))
value_form (Triple a b c) = vector
    (item (atom (integer a)) (item (atom (integer b)) (item (atom (integer c)) no_items)))

-- the value of :type
abbrev pub type_of : Action → List ℕ
type_of (Invoke op) = codes "invoke"
type_of (Ok r) = codes "ok"
type_of Fail = codes "fail"
type_of Info = codes "info"

-- the value of :value: the reply of a call that returned one, else the argument
abbrev pub map_value : AnyOp → Action → Value
map_value op (Invoke o) = op_value op
map_value op (Ok r) = reply_value r
map_value op Fail = op_value op
map_value op Info = op_value op

-- the form of a line, such as `{:process 0, :type :invoke, :f :enqueue, :value 1, :object 0}`
abbrev pub form_of : Line → Datum
form_of l = dictionary
    (entry (codes "process") (atom (integer (pos l.event.process)))
    (entry (codes "type") (atom (keyword (type_of l.event.action)))
    (entry (codes "f") (atom (keyword (name_of (function_in l.op))))
    (entry (codes "value") (value_form (map_value l.op l.event.action))
    (entry (codes "object") (atom (integer (pos l.event.object))) no_entries)))))

-- the text of the lines: of each its form and a line feed
abbrev pub history_text : List Line → List ℕ
history_text ls = edn.form_lines (map form_of ls)
