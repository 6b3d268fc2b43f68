-- Small lists of events that show what the shards of a list are, and why processes are checked on
-- the full history. Each object is in a shard of its own.
use Rattle.std.specs.Prelude.{ℕ, ◌==◌, pos, List, [], ◌∷◌, Some, if◌then◌else◌}
use Rattle.model.specs.declared.AnyOp.TheVariants.{Enqueue}
use Rattle.model.specs.declared.AnyReply.TheVariants.{Value}
use Rattle.events.specs.declared.event.Action.{Action}
use Rattle.events.specs.declared.event.Action.TheVariants.{Invoke, Ok}
use Rattle.events.specs.declared.event.Event.{Event}
use Rattle.shards.specs.Shards.{events_on}

-- the shard of an object, if each object is in the shard that has its number
abbrev pub own_shard : ℕ → ℕ
own_shard x = x

-- the event with this number in which this process does this on this object
abbrev pub does : ℕ → ℕ → ℕ → Action → Event
does n p x a = record { number = n; object = x; process = p; action = a }

-- Process 3 enqueues 7 on object 1, and meanwhile process 4 enqueues 8 on object 2.
abbrev pub one_each : List Event
one_each =
    does 0 3 1 (Invoke (Enqueue (pos 7)))
    ∷ does 1 4 2 (Invoke (Enqueue (pos 8)))
    ∷ does 2 3 1 (Ok (Value (Some (pos 7))))
    ∷ does 3 4 2 (Ok (Value (Some (pos 8))))
    ∷ []

-- the shard with object 2, which counts its own two events, as a text of its own counts its maps
abbrev pub renumbered_shard : List Event
renumbered_shard =
    does 0 4 2 (Invoke (Enqueue (pos 8)))
    ∷ does 1 4 2 (Ok (Value (Some (pos 8))))
    ∷ []

-- the shards: that one, and the others with the numbers that their events have in the full history
abbrev pub shards_of_one_each : ℕ → List Event
shards_of_one_each s =
    if own_shard 2 == s then renumbered_shard else events_on (λ x. own_shard x == s) one_each

-- Process 3 invokes an enqueue on object 1, and, before that returns, another on object 2. Then
-- both return.
abbrev pub two_at_once : List Event
two_at_once =
    does 0 3 1 (Invoke (Enqueue (pos 7)))
    ∷ does 1 3 2 (Invoke (Enqueue (pos 8)))
    ∷ does 2 3 1 (Ok (Value (Some (pos 7))))
    ∷ does 3 3 2 (Ok (Value (Some (pos 8))))
    ∷ []

-- the shards of `two_at_once`, with the numbers that their events have in the full history
abbrev pub shards_of_two_at_once : ℕ → List Event
shards_of_two_at_once s = events_on (λ x. own_shard x == s) two_at_once
