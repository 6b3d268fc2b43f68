-- Client events, when a list of them is proper, and the history that it denotes.
use Rattle.std.specs.Prelude.{◌≡◌, ℕ, ◌==◌, ◌<◌, ⊤, Bool, true, false, List, [], ◌∷◌, ◌++◌, Option}
use Rattle.std.specs.Prelude.{Some, None, AllPairs, Contains, find, reverse, if◌then◌else◌}
use Rattle.std.specs.Option.{option_map_or}
use Rattle.model.specs.declared.Kind.{Kind}
use Rattle.model.specs.declared.AnyOp.{AnyOp}
use Rattle.model.specs.declared.AnyReply.{AnyReply}
use Rattle.model.specs.Objects.{kind_of, some_kind}
use Rattle.model.specs.Histories.{Inv, Res}
use Rattle.model.specs.Orders.{Numbered}
use Rattle.seq_objects.specs.Values.{function_in, reply_with, reply_value}
use Rattle.events.specs.declared.event.Action.{Action}
use Rattle.events.specs.declared.event.Action.TheVariants.{Invoke, Ok, Fail, Info}
use Rattle.events.specs.declared.event.Event.{Event}

-- the first of these events that is of process p
abbrev pub next_event : ℕ → List Event → Option Event
next_event p later = find (λ e. e.process == p) later

-- the last of these events that is of process p
abbrev pub last_event : ℕ → List Event → Option Event
last_event p earlier = find (λ e. e.process == p) (reverse earlier)

-- ---- which lists of events are proper

-- A process may invoke if its last event, if there is one, completed an operation with Ok or
-- Fail.
abbrev pub IsIdleAfter : Action → Type 0
IsIdleAfter (Invoke op) = ⊥
IsIdleAfter (Ok r) = ⊤
IsIdleAfter Fail = ⊤
IsIdleAfter Info = ⊥

-- a process may invoke if this is its last event: it has none, or one that completed an operation
-- with Ok or Fail
abbrev pub IsIdle : Option Event → Type 0
IsIdle None = ⊤
IsIdle (Some e) = IsIdleAfter e.action

-- the earlier invocations on the object are of operations of the same kind as this one
abbrev pub IsOfKindAt : List Event → ℕ → AnyOp → Type 0
IsOfKindAt earlier x op =
    (e : Event) (earlier_op : AnyOp) → Contains earlier e → e.object ≡ x
    → e.action ≡ Invoke earlier_op → kind_of earlier_op ≡ kind_of op

-- the process has this operation outstanding, on this object
abbrev pub IsOutstandingCall : Option Event → ℕ → AnyOp → Type 0
IsOutstandingCall last x op = (e : Event) × (last ≡ Some e) × (e.object ≡ x)
    × (e.action ≡ Invoke op)

-- a reply of the shape that the operation has, as nil or an integer where it answers a value
abbrev pub HasShape : AnyOp → AnyReply → Type 0
HasShape op r = reply_with (function_in op) (reply_value r) ≡ Some r

-- An event fits after earlier ones: an invocation of an idle process, of the kind of the object's
-- earlier ones, or a completion of the operation that is outstanding, on its object, and with a
-- reply of its shape.
abbrev pub Follows : List Event → ℕ → ℕ → Action → Type 0
Follows earlier p x (Invoke op) = IsIdle (last_event p earlier) × IsOfKindAt earlier x op
Follows earlier p x (Ok r) =
    (op : AnyOp) × IsOutstandingCall (last_event p earlier) x op × HasShape op r
Follows earlier p x Fail = (op : AnyOp) × IsOutstandingCall (last_event p earlier) x op
Follows earlier p x Info = (op : AnyOp) × IsOutstandingCall (last_event p earlier) x op

-- Numbers rise, and each event fits after those before it.
pub record IsProper (es : List Event) : Type 0 where
  pub rising : AllPairs (λ a b. a.number < b.number) es
  pub each : (earlier later : List Event) (e : Event) → es ≡ earlier ++ e ∷ later
      → Follows earlier e.process e.object e.action

-- ---- what a list of events denotes

-- whether an event with this action says that an operation did not happen
abbrev pub is_fail : Action → Bool
is_fail Fail = true
is_fail a = false

-- whether the operation that is outstanding did not happen, by the next event of its process
abbrev pub fails : Option Event → Bool
fails next = option_map_or (λ e. is_fail e.action) next false

-- an invocation stands for itself unless its operation failed, Ok for the response, and nothing
-- else leaves an event
abbrev pub denoted_by : ℕ → ℕ → ℕ → Action → Bool → List Numbered
denoted_by number p x (Invoke op) failed =
    if failed then [] else record { number = number; event = Inv p x op } ∷ []
denoted_by number p x (Ok r) failed = record { number = number; event = Res p x r } ∷ []
denoted_by number p x Fail failed = []
denoted_by number p x Info failed = []

-- The history that events denote: in their order, and with their numbers, the invocations, except
-- for those whose process next fails, and the responses. If nothing is known of an operation its
-- invocation stays pending.
abbrev pub denoted : List Event → List Numbered
denoted [] = []
denoted (e ∷ later) =
    denoted_by e.number e.process e.object e.action (fails (next_event e.process later))
    ++ denoted later

-- ---- objects

-- some invocation, even a failed one, names the object
pub record IsNamed (es : List Event) (x : ℕ) : Type 0 where
  pub event : Event
  pub op : AnyOp
  pub stands : Contains es event
  pub on_object : event.object ≡ x
  pub invokes : event.action ≡ Invoke op

-- the kind of the operation that an event with this action invokes; if it invokes none, the other
-- kind
abbrev pub kind_by : Action → Kind → Kind
kind_by (Invoke op) other = kind_of op
kind_by (Ok r) other = other
kind_by Fail other = other
kind_by Info other = other

-- the kind of an object: that of the first invocation that names it
abbrev pub kind_of_object : List Event → ℕ → Kind
kind_of_object [] x = some_kind
kind_of_object (e ∷ later) x =
    if e.object == x then kind_by e.action (kind_of_object later x) else kind_of_object later x
