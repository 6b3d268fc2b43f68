-- What shards have, in all and of each kind, and the sums of it.
use Rattle.std.specs.Prelude.{◌≡◌, ℕ, ◌-◌, ◌^◌, Bool, false, List, [], length, map, min, find}
use Rattle.std.specs.Prelude.{sum_by, if◌then◌else◌}
use Rattle.std.specs.List.{flat_map}
use Rattle.std.specs.List.Sorted.{IsNonDecreasingBy, IsPermutation}
use Rattle.std.specs.Option.{option_map_or}
use Rattle.model.specs.declared.Kind.{Kind}
use Rattle.model.specs.Objects.{kind_of}
use Rattle.events.specs.declared.event.Action.{Action}
use Rattle.events.specs.declared.event.Action.TheVariants.{Invoke, Ok, Fail, Info}
use Rattle.events.specs.declared.event.Event.{Event}
use Rattle.report.specs.Counts.{count_of, first_seen, kinds_in, objects_in, operations_in}
use Rattle.report.specs.Counts.{same_kind, uses}
use Rattle.report.specs.declared.verdict.KindCount.{KindCount}
use Rattle.report.specs.declared.verdict.Summary.{Summary}
use Rattle.history_commands.specs.declared.shard_counts.Counts.{Counts}
use Rattle.history_commands.specs.declared.shard_counts.KindFrom.{KindFrom}

-- ---- one shard

-- whether an event with this action invokes an operation of this kind
abbrev pub invokes_kind : Kind → Action → Bool
invokes_kind k (Invoke op) = same_kind k (kind_of op)
invokes_kind k (Ok r) = false
invokes_kind k Fail = false
invokes_kind k Info = false

-- the number of the first event that invokes an operation of this kind
abbrev pub first_number : List Event → Kind → ℕ
first_number es k = option_map_or (λ e. e.number) (find (λ e. invokes_kind k e.action) es) 0

-- how many operations and objects there are; and how many of each kind, with the number of the
-- first invocation of the kind
pub record Counted : Type 0 where
  pub operations : ℕ
  pub objects : ℕ
  pub kinds : List KindFrom

-- what the events of a shard have of one kind
abbrev pub kind_in_shard : List Event → Kind → KindFrom
kind_in_shard es k = record { count = count_of es k; first = first_number es k }

-- what the events of a shard have: how many operations and objects, and how many of each kind with
-- its first invocation
abbrev pub counted : List Event → Counted
counted es =
    record {
      operations = length (operations_in es);
      objects = length (objects_in (uses es));
      kinds = map (kind_in_shard es) (kinds_in (uses es));
    }

-- what is counted of a shard whose history is not read: nothing
abbrev pub nothing_counted : Counted
nothing_counted = record { operations = 0; objects = 0; kinds = [] }

-- the counts, apart from how they are in memory
abbrev pub seen_counts : Counts → Counted
seen_counts c =
    record { operations = c.operations; objects = c.objects; kinds = c.kinds.items }

-- ---- the sums

-- a number, or the greatest of 64 bits if that is less
abbrev pub capped : ℕ → ℕ
capped n = min n (2 ^ 64 - 1)

-- the sum of one number over the counts of this kind
abbrev pub sum_for : (KindCount → ℕ) → Kind → List KindFrom → ℕ
sum_for f k ks = sum_by (λ x. if same_kind k x.count.kind then f x.count else 0) ks

-- what there is of one kind in all of these counts
abbrev pub total_of : List KindFrom → Kind → KindCount
total_of ks k =
    record {
      kind = k;
      objects = capped (sum_for (λ c. c.objects) k ks);
      operations = capped (sum_for (λ c. c.operations) k ks);
    }

-- The numbers in all are the sums of those of each shard, and what each has of kinds is in one
-- list.
pub record AreAdded (c : Counted) (all : List Counted) : Type 0 where
  pub operations : c.operations ≡ capped (sum_by (λ x. x.operations) all)
  pub objects : c.objects ≡ capped (sum_by (λ x. x.objects) all)
  pub kinds : c.kinds ≡ flat_map (λ x. x.kinds) all

-- The counts of a yes are the sums of what each shard has. The kinds are in the order of their
-- first invocations.
pub record AreSums (s : Summary) (all : List Counted) : Type 0 where
  pub operations : s.operations ≡ capped (sum_by (λ x. x.operations) all)
  pub objects : s.objects ≡ capped (sum_by (λ x. x.objects) all)
  pub sorted : List KindFrom
  pub same : IsPermutation (flat_map (λ x. x.kinds) all) sorted
  pub rising : IsNonDecreasingBy (λ x. x.first) sorted
  pub kinds : s.kinds.items
      ≡ map (total_of sorted) (first_seen same_kind (map (λ x. x.count.kind) sorted))
