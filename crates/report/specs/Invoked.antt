-- The invocations as they are counted. No public clause speaks of it.
use Rattle.std.specs.Prelude.{◌≡◌, ℕ, Bool, true, List, [], ◌∷◌, ◌++◌, map, filter, length}
use Rattle.std.specs.Prelude.{Option, Some, None, nat_eq, not, ◌&&◌}
use Rattle.std.specs.List.{list_any}
use Rattle.model.specs.declared.Kind.{Kind}
use Rattle.model.specs.Objects.{kind_of}
use Rattle.events.specs.declared.event.Action.{Action}
use Rattle.events.specs.declared.event.Action.TheVariants.{Invoke, Ok, Fail, Info}
use Rattle.events.specs.declared.event.Event.{Event}
use Rattle.events.specs.Events.{next_event, fails}
use Rattle.report.specs.declared.counting.Invoked.{Invoked}
use Rattle.report.specs.declared.verdict.KindCount.{KindCount}
use Rattle.report.specs.Counts.{first_seen, same_kind}

-- the invocation that an event is, and whether its operation failed
abbrev pub invocation_by : ℕ → Action → Bool → List Invoked
invocation_by x (Invoke op) failed = record { object = x; kind = kind_of op; failed = failed } ∷ []
invocation_by x (Ok r) failed = []
invocation_by x Fail failed = []
invocation_by x Info failed = []

-- the invocations among the events, each with whether its operation failed
abbrev pub invocations : List Event → List Invoked
invocations [] = []
invocations (e ∷ later) =
    invocation_by e.object e.action (fails (next_event e.process later)) ++ invocations later

-- whether an invocation is of this kind; if no kind is given, it is of any
abbrev pub is_of : Option Kind → Invoked → Bool
is_of None i = true
is_of (Some k) i = same_kind k i.kind

-- how many operations of this kind, or of any, did not fail
abbrev pub operation_count : Option Kind → List Invoked → ℕ
operation_count k xs = length (filter (λ i. is_of k i && not i.failed) xs)

-- the objects that invocations of this kind, or of any, name, each once
abbrev pub object_numbers : Option Kind → List Invoked → List ℕ
object_numbers k xs = first_seen nat_eq (map (λ i. i.object) (filter (is_of k) xs))

-- how many objects and operations of this kind the invocations have
abbrev pub kind_count : List Invoked → Kind → KindCount
kind_count xs k =
    record {
      kind = k;
      objects = length (object_numbers (Some k) xs);
      operations = operation_count (Some k) xs;
    }

-- these are the objects that were seen, as a set, and this many
pub record AreSeen (among : ℕ → Bool) (size : ℕ) (seen : List ℕ) : Type 0 where
  pub objects : (x : ℕ) → among x ≡ list_any (nat_eq x) seen
  pub count : size ≡ length seen
