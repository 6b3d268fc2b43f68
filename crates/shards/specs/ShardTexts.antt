-- A history of any length, divided into shards: texts, each of which has the maps on some objects.
use Rattle.std.specs.Prelude.{◌≡◌, ℕ, Bool, ◌==◌, List, [], ◌∷◌, ◌++◌, All, map, filter, Some}
use Rattle.edn_reader.specs.Datum.{Datum}
use Rattle.edn_reader.specs.Spells.{Spells}
use Rattle.events.specs.declared.event.Event.{Event}
use Rattle.shards.specs.Shards.{AreApart, AreRenumbered, DenoteLinearizable, events_on, renamed}
use Rattle.history.specs.Denotes.{DenotesAtAnyLength, events_of_forms}
use Rattle.history.specs.Faults.{IsFaultlessAtAnyLength}
use Rattle.history.specs.Maps.{ClientMap, client_of, plain_value}
use Rattle.shards.specs.Forms.{is_on}

-- The second map of a client says what the first says, of an object by this name; of its value,
-- as far as that may be an argument or a reply.
pub record IsRenamed (name : ℕ → ℕ) (m n : ClientMap) : Type 0 where
  pub process : n.process ≡ m.process
  pub type : n.type ≡ m.type
  pub function : n.function ≡ m.function
  pub object : n.object ≡ name m.object
  pub value : plain_value n.value ≡ plain_value m.value

-- Both forms are maps of clients, and the second says what the first says, of an object by this
-- name.
abbrev pub SaysRenamed : (ℕ → ℕ) → Datum → Datum → Type 0
SaysRenamed name d e =
    (m n : ClientMap) × (client_of d ≡ Some m) × (client_of e ≡ Some n) × IsRenamed name m n

-- a map of the full history: its form there, its form in a shard, and the bytes that spell it in
-- the shard
pub record SpelledMap : Type 0 where
  pub form : Datum
  pub own : Datum
  pub text : List ℕ

-- a map of a client is spelled for its shard, and says there what it says in the full history
abbrev pub IsSpelled : (ℕ → ℕ) → SpelledMap → Type 0
IsSpelled name m = (c : ClientMap) → client_of m.form ≡ Some c
    → SaysRenamed name m.form m.own × Spells (m.own ∷ []) m.text

-- the text of maps, with a line feed after each
abbrev pub map_lines : List SpelledMap → List ℕ
map_lines [] = []
map_lines (m ∷ ms) = m.text ++ 10 ∷ map_lines ms

-- the maps of clients on the objects of one shard. `shard_of` says in which shard an object is
abbrev pub maps_of_shard : (ℕ → ℕ) → ℕ → List SpelledMap → List SpelledMap
maps_of_shard shard_of s maps = filter (λ m. is_on (λ x. shard_of x == s) m.form) maps

-- The whole text spells maps without a fault, however many they are. Each shard has, in their
-- order, the maps of clients on its own objects, each by a text that spells it, in which the object
-- has its name in the shard.
pub record IsSplit (shard_of name : ℕ → ℕ) (whole : List ℕ) (shards : ℕ → List ℕ) : Type 0 where
  pub maps : List SpelledMap
  pub spelled : Spells (map (λ m. m.form) maps) whole
  pub each : All (IsSpelled name) maps
  pub faultless : IsFaultlessAtAnyLength (map (λ m. m.form) maps)
  pub apart : AreApart shard_of name (events_of_forms 0 (map (λ m. m.form) maps))
  pub texts : (s : ℕ) → shards s ≡ map_lines (maps_of_shard shard_of s maps)

-- the events that a text denotes, however many maps it has
pub record TextDenotes (text : List ℕ) (es : List Event) : Type 0 where
  pub forms : List Datum
  pub spelled : Spells forms text
  pub denoted : DenotesAtAnyLength forms es

-- The history that the text denotes, however many maps it has, is linearizable.
pub record IsLinearizableAtAnyLength (text : List ℕ) : Type 0 where
  pub events : List Event
  pub denoted : TextDenotes text events
  pub linearizable : DenoteLinearizable events

-- a shard denotes the events of the full history on its objects, by their names there, under
-- numbers of its own
pub record IsShardOf (objects : ℕ → Bool) (name : ℕ → ℕ) (whole : List Event) (text : List ℕ)
    : Type 0 where
  pub events : List Event
  pub denoted : TextDenotes text events
  pub renumbered : AreRenumbered (renamed name (events_on objects whole)) events
