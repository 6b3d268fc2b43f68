-- The operations of one object, with their ends, and the calls that they are.
use Rattle.std.specs.Prelude.{unwrap_or, ◌≡◌, ◌≢◌, ℕ, ◌==◌, ◌<◌, ⊤, reverse, List, [], ◌∷◌, ◌++◌}
use Rattle.std.specs.Prelude.{Option, Some, None, All, AllPairs, Contains, ◌%◌, ◌⊎◌, ◌↔◌, map}
use Rattle.std.specs.Prelude.{if◌then◌else◌}
use Rattle.std.specs.List.{filter_map}
use Rattle.model.specs.declared.Kind.{Kind}
use Rattle.model.specs.declared.AnyOp.{AnyOp}
use Rattle.model.specs.declared.AnyReply.{AnyReply}
use Rattle.model.specs.Objects.{kind_of}
use Rattle.model.specs.Orders.{Call, Return, calls_on}
use Rattle.events.specs.declared.event.Action.{Action}
use Rattle.events.specs.declared.event.Action.TheVariants.{Invoke, Ok, Fail, Info}
use Rattle.events.specs.declared.event.Event.{Event}
use Rattle.events.specs.declared.operations.End.{End}
use Rattle.events.specs.declared.operations.End.TheVariants.{Returned, Pending, Failed}
use Rattle.events.specs.declared.operations.Operation.{Operation}
use Rattle.events.specs.Events.{next_event, IsNamed, kind_of_object, denoted}

-- how an operation ends if the next event of its process has this number and this action
abbrev pub end_by : ℕ → Action → End
end_by number (Invoke op) = Pending
end_by number (Ok r) = Returned number r
end_by number Fail = Failed
end_by number Info = Pending

-- how an operation ends, by the next event of its process: without one it is pending
abbrev pub end_at : Option Event → End
end_at None = Pending
end_at (Some e) = end_by e.number e.action

-- how an operation ends, by what is kept of it: if nothing is kept, it is pending
abbrev pub end_kept : Option End → End
end_kept kept = unwrap_or kept Pending

-- the operation that an event with this number and this action invokes, if it invokes one, with how
-- it ends
abbrev pub begun : ℕ → Action → End → List Operation
begun number (Invoke op) how = record { number = number; op = op; «end» = how } ∷ []
begun number (Ok r) how = []
begun number Fail how = []
begun number Info how = []

-- the operations on one object, in the order of their invocations
abbrev pub operations_on : ℕ → List Event → List Operation
operations_on x [] = []
operations_on x (e ∷ later) =
    (if e.object == x then begun e.number e.action (end_at (next_event e.process later)) else [])
    ++ operations_on x later

-- the operations on the object, if its number leaves the remainder `part` by `parts`; otherwise
-- none
abbrev pub operations_in : ℕ → ℕ → ℕ → List Event → List Operation
operations_in part parts x es = if x % parts == part then operations_on x es else []

-- ---- as calls

-- the response of an operation, if it returned
abbrev pub return_of : End → Option Return
return_of (Returned at reply) = Some (record { at = at; reply = reply })
return_of Pending = None
return_of Failed = None

-- a call returned, and its reply is another one than this
abbrev pub ReplyDiffers : Option Return → AnyReply → Type 0
ReplyDiffers returned gives = (r : Return) × (returned ≡ Some r) × (r.reply ≢ gives)

-- if a call returned, it returned this reply
abbrev pub Agrees : Option Return → AnyReply → Type 0
Agrees returned gives = (r : Return) → returned ≡ Some r → r.reply ≡ gives

-- an operation with this end, as a call; `None` if it failed
abbrev pub call_with : ℕ → AnyOp → End → Option Call
call_with number op (Returned at reply) =
    Some (record { number = number; op = op; returned = Some (record { at = at; reply = reply }) })
call_with number op Pending = Some (record { number = number; op = op; returned = None })
call_with number op Failed = None

-- an operation as a call, if it did not fail
abbrev pub call_of : Operation → Option Call
call_of o = call_with o.number o.op o.«end»

-- the calls of an object: its operations that did not fail
abbrev pub calls_of : List Operation → List Call
calls_of ops = filter_map call_of ops

-- ---- an object's history

-- the response of an operation, if it returned, is after its invocation, and has the number of no
-- invocation among these
abbrev pub EndsAfter : ℕ → List Operation → End → Type 0
EndsAfter number ops (Returned at reply) = (number < at) × All (λ o. o.number ≡ at → ⊥) ops
EndsAfter number ops Pending = ⊤
EndsAfter number ops Failed = ⊤

-- the operations of one object in a history
pub record ObjectCalls : Type 0 where
  pub object : ℕ
  pub kind : Kind
  pub ops : List Operation

-- Numbers rise, the operations are of the kind, and a response is after its invocation, and at
-- no invocation.
pub record IsObjectHistory (h : ObjectCalls) : Type 0 where
  pub rising : AllPairs (λ a b. a.number < b.number) h.ops
  pub of_kind : All (λ o. kind_of o.op ≡ h.kind) h.ops
  pub ends : All (λ o. EndsAfter o.number h.ops o.«end») h.ops

-- what is kept of an object's operations: the operations in reverse, or nothing if there are none
abbrev pub IsGatheredObject : Option (List Operation) → List Operation → Type 0
IsGatheredObject None ops = ops ≡ []
IsGatheredObject (Some kept) ops = (kept ≡ reverse ops) × (ops ≢ [])

-- an object of which something is kept is in the list
abbrev pub IsListed : {V : Type 0} → Option V → List ℕ → ℕ → Type 0
IsListed kept objects x = (kept ≡ None) ⊎ Contains objects x

-- these are the histories of the named objects whose number leaves the remainder part by parts
pub record AreObjects (part parts : ℕ) (es : List Event) (objects : List ObjectCalls) : Type 0 where
  pub rising : AllPairs (λ a b. a.object < b.object) objects
  pub named : (x : ℕ) → Contains (map (λ o. o.object) objects) x
      ↔ (IsNamed es x × (x % parts ≡ part))
  pub kinds : All (λ o. o.kind ≡ kind_of_object es o.object) objects
  pub operations : All (λ o. o.ops ≡ operations_on o.object es) objects
  pub calls : All (λ o. calls_of o.ops ≡ calls_on o.object (denoted es)) objects
