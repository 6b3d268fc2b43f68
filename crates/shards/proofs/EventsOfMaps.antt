-- What the event that a reader gives says of its map: an event is that of a client's map on its object, with the map's
-- place as its number, and a map without an event is no client's, since it has no fault.
use Rattle.std.proofs.Common.{◌≡◌, ℕ, ◌+◌, Bool, false, List, [], ◌∷◌, ◌++◌, length}
use Rattle.std.proofs.Common.{Option, Some, None, refl, ap, sym, ◌∙◌, arith}
use Rattle.std.proofs.lemmas.List.{append_cancel_left}
use Rattle.edn_reader.specs.Datum.{Datum}
use Rattle.events.specs.declared.event.Action.{Action}
use Rattle.events.specs.declared.event.Event.{Event}
use Rattle.history.specs.Maps.{ClientMap, client_of}
use Rattle.history.specs.Views.{Says}
use Rattle.history.specs.declared.client_map.ClientMap as client
use Rattle.history.specs.declared.client_map.OperationMap.{OperationMap}
use Rattle.history.specs.declared.client_map.OperationMap.TheVariants.{OfClient, Ignored, Neither}
use Rattle.history.specs.Denotes.{action_of, event_of_map, event_of, events_of_forms}
use Rattle.history.specs.Faults.{IsFaultlessAtAnyLength}
use Rattle.history.specs.declared.fault.HistoryFaultKind.TheVariants.{BadValue}
use Rattle.history.proofs.FirstFaults.{bad_value}
use Rattle.history.proofs.Reading.{events_push}
use Rattle.shards.specs.Forms.{is_on}

-- the event is that of the map of a client
pub record IsEventOf (d : Datum) (place : ℕ) (e : Event) : Type 0 where
  pub map : ClientMap
  pub client : client_of d ≡ Some map
  pub object : map.object ≡ e.object
  pub number : e.number ≡ place

own_events : (ds : List Datum) (d : Datum) (es : List Event) → events_of_forms 0 (ds ++ d ∷ []) ≡ events_of_forms 0 ds
    ++ es
    → event_of (0 + length ds) (client_of d) ≡ es
own_events ds d es q =
    append_cancel_left (events_of_forms 0 ds) (event_of (0 + length ds) (client_of d)) es (sym (events_push 0 ds d) ∙ q)

pub event_is : (ds : List Datum) (d : Datum) (e : Event)
    → events_of_forms 0 (ds ++ d ∷ []) ≡ events_of_forms 0 ds ++ e ∷ [] → IsEventOf d (length ds) e
event_is ds d e q = go (client_of d) refl (own_events ds d (e ∷ []) q)
  where
    with_action : (m : ClientMap) (a : Option Action) → client_of d ≡ Some m
        → event_of_map (0 + length ds) m a ≡ e ∷ [] → IsEventOf d (length ds) e
    with_action m None r s = absurd cc
    with_action m (Some a) r s =
        let same : record { number = 0 + length ds; process = m.process; object = m.object; action = a } ≡ e = cc in
        let place = ap (λ (x : Event). x.number) same in
        record { map = m; client = r; object = ap (λ (x : Event). x.object) same; number = omega (arith, place) }

    go : (o : Option ClientMap) → client_of d ≡ o → event_of (0 + length ds) o ≡ e ∷ []
        → IsEventOf d (length ds) e
    go None r s = absurd cc
    go (Some m) r s = with_action m (action_of m.type m) r s

pub no_client : (ds : List Datum) (d : Datum) → IsFaultlessAtAnyLength (ds ++ d ∷ [])
    → events_of_forms 0 (ds ++ d ∷ []) ≡ events_of_forms 0 ds ++ [] → client_of d ≡ None
no_client ds d faultless q = go (client_of d) refl (own_events ds d [] q)
  where
    with_action : (m : ClientMap) (a : Option Action) → client_of d ≡ Some m → action_of m.type m ≡ a
        → event_of_map (0 + length ds) m a ≡ [] → Some m ≡ None
    with_action m None r t s = absurd (faultless ds [] d BadValue refl (m, r, bad_value m.type m t))
    with_action m (Some a) r t s = absurd cc

    go : (o : Option ClientMap) → client_of d ≡ o → event_of (0 + length ds) o ≡ [] → o ≡ None
    go None r s = refl
    go (Some m) r s = with_action m (action_of m.type m) r refl s

-- ---- whether it is on some objects

pub on_object : (has : ℕ → Bool) (d : Datum) (m : ClientMap) → client_of d ≡ Some m → is_on has d ≡ has m.object
on_object has d m q = rw q

pub on_none : (has : ℕ → Bool) (d : Datum) → client_of d ≡ None → is_on has d ≡ false
on_none has d q = rw q

-- ---- what a reader says of a map

-- a client's map is said to be one
pub says_client : (said : OperationMap) (d : Datum) (m : ClientMap) → Says said d → client_of d ≡ Some m
    → ((c : client.ClientMap) → said ≡ OfClient c → ⊥) → ⊥
says_client (OfClient c) d m says q other = other c refl
says_client Ignored d m says q other = let none = says.0 in cc (none, q)
says_client Neither d m says q other = let none = says.0 in cc (none, q)
