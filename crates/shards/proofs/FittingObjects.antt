-- The objects that are named in maps whose objects fit are told apart in each shard: each named object is that of a
-- map, since an event is that of a map.
use Rattle.std.proofs.Common.{◌≡◌, ℕ, ◌+◌, ◌/◌, ◌<◌, inl, inr, List, [], ◌∷◌, All, Option, Some, None, refl}
use Rattle.model.specs.Lists.{In}
use Rattle.model.proofs.Lists.{in_append, in_from_contains}
use Rattle.std.proofs.lemmas.List.Elements.{All-head, All-map, All-tail}
use Rattle.edn_reader.specs.Datum.{Datum}
use Rattle.events.specs.declared.event.Action.{Action}
use Rattle.events.specs.declared.event.Event.{Event}
use Rattle.events.specs.Events.{IsNamed}
use Rattle.history.specs.Maps.{ClientMap, client_of}
use Rattle.history.specs.Denotes.{action_of, event_of_map, event_of, events_of_forms}
use Rattle.shards.specs.Dividing.{FitsAmong, ObjectFits, most_names, name_in_shard, shard_among}
use Rattle.shards.specs.Shards.{AreApart}
use Rattle.shards.specs.ShardTexts.{SpelledMap}
use Rattle.shards.specs.Taking.{forms_of}
use Rattle.shards.proofs.NamesInShards.{told_apart}

-- an event is that of a form, whose object fits
event_fits : (count k : ℕ) (ds : List Datum) (e : Event) → All (FitsAmong count) ds → In e (events_of_forms k ds)
    → e.object / most_names < count
event_fits count k [] e fit i = absurd i
event_fits count k (d ∷ ds) e fit i = elim (in_append e (event_of k (client_of d)) (events_of_forms (k + 1) ds) i) [
  | inl j ↦ first (client_of d) refl j
  | inr j ↦ event_fits count (k + 1) ds e (All-tail (FitsAmong count) d ds fit) j
]
  where
    own : (m : ClientMap) (a : Option Action) → client_of d ≡ Some m → In e (event_of_map k m a)
        → e.object / most_names < count
    own m None q j = absurd j
    own m (Some a) q j = elim j [ inl s ↦ rw s (All-head (FitsAmong count) d ds fit m q) | inr n ↦ absurd n ]

    first : (o : Option ClientMap) → client_of d ≡ o → In e (event_of k o) → e.object / most_names < count
    first None q j = absurd j
    first (Some m) q j = own m (action_of m.type m) q j

named_fits : (count : ℕ) (maps : List SpelledMap) → All (ObjectFits count) maps → (x : ℕ)
    → IsNamed (events_of_forms 0 (forms_of maps)) x → x / most_names < count
named_fits count maps fit x n =
    rw (← n.on_object) (event_fits count 0 (forms_of maps) n.event (All-map (FitsAmong count) (λ m. m.form) maps fit)
    (in_from_contains (events_of_forms 0 (forms_of maps)) n.event n.stands))

pub apart_where_fit : (count : ℕ) (maps : List SpelledMap) → All (ObjectFits count) maps
    → AreApart (shard_among count) name_in_shard (events_of_forms 0 (forms_of maps))
apart_where_fit count maps fit x y m n =
    told_apart count x y (named_fits count maps fit x m) (named_fits count maps fit y n)
