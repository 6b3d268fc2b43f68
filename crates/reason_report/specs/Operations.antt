-- The lines of the operations of a part, and what the history's own events say of each. A part may
-- count an operation as another one.
use Rattle.std.specs.Prelude.{ℕ, Bool, List, [], ◌∷◌, ◌++◌, ◌==◌, Option, Some, None, find, codes}
use Rattle.std.specs.Prelude.{decimal, if◌then◌else◌}
use Rattle.model.specs.declared.AnyOp.{AnyOp}
use Rattle.model.specs.declared.AnyReply.{AnyReply}
use Rattle.seq_objects.specs.Functions.{name_of}
use Rattle.seq_objects.specs.Values.{function_in, op_value, reply_value}
use Rattle.events.specs.declared.event.Action.{Action}
use Rattle.events.specs.declared.event.Action.TheVariants.{Invoke, Ok, Fail, Info}
use Rattle.events.specs.declared.event.Event.{Event}
use Rattle.events.specs.declared.operations.End.{End}
use Rattle.events.specs.declared.operations.End.TheVariants.{Returned, Pending, Failed}
use Rattle.events.specs.declared.operations.Operation.{Operation}
use Rattle.events.specs.contracts.operations.OperationPartialEq.TheImpl as derived
use Rattle.reason_report.specs.Segments.{comment_text, value_text}

-- ---- what the history says

-- the event with this number, if there is one
abbrev pub event_at : List Event → ℕ → Option Event
event_at es number = find (λ e. e.number == number) es

-- the process of an event, and 0 if there is none
abbrev pub process_in : Option Event → ℕ
process_in None = 0
process_in (Some e) = e.process

-- the operation that an event with this action invokes, or the other one if it invokes none
abbrev pub op_by : AnyOp → Action → AnyOp
op_by other (Invoke op) = op
op_by other (Ok r) = other
op_by other Fail = other
op_by other Info = other

-- the operation that the event invokes, or the other one if there is no event or it invokes none
abbrev pub op_shown : AnyOp → Option Event → AnyOp
op_shown other None = other
op_shown other (Some e) = op_by other e.action

-- the reply that an event with this action has, or the other one if it has none
abbrev pub reply_by : AnyReply → Action → AnyReply
reply_by other (Invoke op) = other
reply_by other (Ok r) = r
reply_by other Fail = other
reply_by other Info = other

-- the reply that the event has, or the other one if there is no event or it has no reply
abbrev pub reply_shown : AnyReply → Option Event → AnyReply
reply_shown other None = other
reply_shown other (Some e) = reply_by other e.action

-- how an operation of a part ends, with the reply that the history has if it returned in the part
abbrev pub end_shown : List Event → End → End
end_shown es (Returned at reply) = Returned at (reply_shown reply (event_at es at))
end_shown es Pending = Pending
end_shown es Failed = Failed

-- an operation of a part with the operation and the reply that the history has at its numbers
abbrev pub operation_in : List Event → Operation → Operation
operation_in es o = record {
  number = o.number;
  op = op_shown o.op (event_at es o.number);
  «end» = end_shown es o.«end»;
}

-- ---- the text

-- where an operation is, such as `events 4 and 9`, or `event 12` if it did not return in the part
abbrev pub place_text : ℕ → End → List ℕ
place_text number (Returned at reply) =
    codes "events " ++ (decimal number ++ (codes " and " ++ decimal at))
place_text number Pending = codes "event " ++ decimal number
place_text number Failed = codes "event " ++ decimal number

-- the text of an operation, such as `:enqueue 7`
abbrev pub op_text : AnyOp → List ℕ
op_text op = codes ":" ++ (name_of (function_in op) ++ (codes " " ++ value_text (op_value op)))

-- the text of a reply, such as `, :ok 7`; nothing if the operation did not return
abbrev pub reply_text : End → List ℕ
reply_text (Returned at reply) = codes ", :ok " ++ value_text (reply_value reply)
reply_text Pending = []
reply_text Failed = []

-- the text of an operation with its reply, such as `:dequeue nil, :ok 7`
abbrev pub call_text : Operation → List ℕ
call_text o = op_text o.op ++ reply_text o.«end»

-- whether two operations have the same number, operation and end: the derived test
abbrev pub same_invocation : Operation → Operation → Bool
same_invocation left right = derived.eq-value.it left right

-- what the part counts an operation as, if that is not what the history says about it
abbrev pub counted_as_text : Operation → Operation → List ℕ
counted_as_text told counted =
    if same_invocation told counted then [] else codes ", counted as " ++ call_text counted

-- what the line of an operation adds if it did not return in the part
abbrev pub open_text : End → List ℕ
open_text (Returned at reply) = []
open_text Pending = codes ", pending"
open_text Failed = codes ", failed"

-- the front of a line, such as `events 4 and 9: process 2, `
abbrev pub heading_text : List Event → Operation → List ℕ
heading_text es o =
    place_text o.number o.«end»
    ++ (codes ": process " ++ (decimal (process_in (event_at es o.number)) ++ codes ", "))

-- the rest of a line, such as `:dequeue nil, :ok 7`, and what the part counts the operation as
abbrev pub said_text : Operation → Operation → List ℕ
said_text told counted =
    call_text told ++ (counted_as_text told counted ++ (open_text counted.«end» ++ codes "\n"))

-- the line of an operation, such as `events 4 and 9: process 2, :dequeue nil, :ok 7`
abbrev pub operation_line : List Event → Operation → List ℕ
operation_line es o = heading_text es o ++ said_text (operation_in es o) o

-- a line for each operation, in their order
abbrev pub operations_text : Bool → List Event → List Operation → List ℕ
operations_text commented es [] = []
operations_text commented es (o ∷ ops) =
    (comment_text commented ++ operation_line es o) ++ operations_text commented es ops
