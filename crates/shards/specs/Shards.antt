-- A history whose objects are divided among shards, each of which is judged by itself. That this
-- decides the full history is locality: Herlihy and Wing, "Linearizability: A Correctness Condition
-- for Concurrent Objects", TOPLAS 1990, section 3.
use Rattle.std.specs.Prelude.{◌≡◌, ℕ, ◌==◌, ◌<◌, Bool, List, AllPairs, map, filter}
use Rattle.model.specs.Linearizable.{IsLinearizable}
use Rattle.model.specs.Orders.{events}
use Rattle.events.specs.declared.event.Action.{Action}
use Rattle.events.specs.declared.event.Event.{Event}
use Rattle.events.specs.Events.{denoted, kind_of_object, IsNamed}

-- the events on the objects that pass the test, in order: as H|x of Herlihy and Wing, section 2,
-- which has those on one object
abbrev pub events_on : (ℕ → Bool) → List Event → List Event
events_on has es = filter (λ e. has e.object) es

-- what an event says, apart from its number: of which process, on which object, and what it does
abbrev pub said : Event → ℕ × ℕ × Action
said e = (e.process, e.object, e.action)

-- The others are the same events, one by one. Their numbers rise, but may be other numbers: the
-- text of a shard may keep the numbers that its events have in the full history, or count its own
-- maps.
pub record AreRenumbered (es others : List Event) : Type 0 where
  pub same : map said others ≡ map said es
  pub rising : AllPairs (λ a b. a.number < b.number) others

-- the event, with another name for its object: a text names objects by small numbers
abbrev pub renamed_event : (ℕ → ℕ) → Event → Event
renamed_event name e = record e { object = name e.object }

-- the events, with another name for each object: a text names objects by small numbers
abbrev pub renamed : (ℕ → ℕ) → List Event → List Event
renamed name es = map (renamed_event name) es

-- No two objects of one shard that the events name have the same name there.
abbrev pub AreApart : (ℕ → ℕ) → (ℕ → ℕ) → List Event → Type 0
AreApart shard_of name es = (x y : ℕ) → IsNamed es x → IsNamed es y
    → shard_of x ≡ shard_of y → name x ≡ name y → x ≡ y

-- Each shard has the events on its own objects, by the names of these, and no others. `shard_of`
-- says in which shard an object is, so each object is in exactly one.
abbrev pub AreShards : (ℕ → ℕ) → (ℕ → ℕ) → List Event → (ℕ → List Event) → Type 0
AreShards shard_of name es shards =
    (s : ℕ) → AreRenumbered (renamed name (events_on (λ x. shard_of x == s) es)) (shards s)

-- The history that the events denote is linearizable, if each object is of the kind that its
-- operations have: the form in which a verdict on a text says it.
abbrev pub DenoteLinearizable : List Event → Type 0
DenoteLinearizable es = IsLinearizable (kind_of_object es) (events (denoted es))
