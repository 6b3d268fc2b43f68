-- What a history has, in all and of each kind.
use Rattle.std.specs.Prelude.{◌≡◌, ℕ, ◌==◌, Bool, List, [], ◌∷◌, ◌++◌, length, map, filter, fold}
use Rattle.std.specs.Prelude.{nat_eq, Option, Some, None, if◌then◌else◌}
use Rattle.std.specs.List.{list_any, filter_map}
use Rattle.model.specs.declared.Kind.{Kind}
use Rattle.model.specs.Objects.{kind_of}
use Rattle.model.specs.Orders.{ProcessCall, calls_in}
use Rattle.seq_objects.specs.Kinds.{place_of}
use Rattle.events.specs.declared.event.Action.{Action}
use Rattle.events.specs.declared.event.Action.TheVariants.{Invoke, Ok, Fail, Info}
use Rattle.events.specs.declared.event.Event.{Event}
use Rattle.events.specs.Events.{denoted}
use Rattle.report.specs.declared.verdict.KindCount.{KindCount}
use Rattle.report.specs.declared.verdict.Summary.{Summary}

-- an invocation: its object, and the kind of its operation
pub record Use : Type 0 where
  pub object : ℕ
  pub kind : Kind

-- the invocation that an event on object x with this action is, if it is one
abbrev pub use_by : ℕ → Action → Option Use
use_by x (Invoke op) = Some (record { object = x; kind = kind_of op })
use_by x (Ok r) = None
use_by x Fail = None
use_by x Info = None

-- the invocations in order, failed ones too
abbrev pub uses : List Event → List Use
uses es = filter_map (λ e. use_by e.object e.action) es

-- the elements that were met and this one, unless it is among them
abbrev pub with_new : {X : Type 0} → (X → X → Bool) → List X → X → List X
with_new same seen x = if list_any (same x) seen then seen else seen ++ x ∷ []

-- the elements of a list, each once, in the order in which they are first met
abbrev pub first_seen : {X : Type 0} → (X → X → Bool) → List X → List X
first_seen same xs = fold (with_new same) [] xs

-- whether both are one kind
abbrev pub same_kind : Kind → Kind → Bool
same_kind k l = place_of k == place_of l

-- the objects that some invocation names, each once
abbrev pub objects_in : List Use → List ℕ
objects_in us = first_seen nat_eq (map (λ u. u.object) us)

-- the kinds of the operations, each once, in the order of their first invocations
abbrev pub kinds_in : List Use → List Kind
kinds_in us = first_seen same_kind (map (λ u. u.kind) us)

-- the operations that did not fail
abbrev pub operations_in : List Event → List ProcessCall
operations_in es = calls_in (denoted es)

-- the operations of this kind that did not fail
abbrev pub operations_of_kind : Kind → List Event → List ProcessCall
operations_of_kind k es = filter (λ c. same_kind k (kind_of c.call.op)) (operations_in es)

-- the objects that some operation of this kind names
abbrev pub objects_of : Kind → List Event → List ℕ
objects_of k es = objects_in (filter (λ u. same_kind k u.kind) (uses es))

-- how many objects and operations of this kind the events have
abbrev pub count_of : List Event → Kind → KindCount
count_of es k =
    record
    { kind = k; objects = length (objects_of k es); operations = length (operations_of_kind k es) }

-- the counts are those of these client events
pub record AreCountsOf (es : List Event) (s : Summary) : Type 0 where
  pub operations : s.operations ≡ length (operations_in es)
  pub objects : s.objects ≡ length (objects_in (uses es))
  pub kinds : s.kinds.items ≡ map (count_of es) (kinds_in (uses es))
