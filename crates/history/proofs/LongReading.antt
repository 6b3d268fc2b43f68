-- One map more of a history of any length: its events, and its fault. That is the first fault, since the maps before it
-- have none, and a fault of the map is neither *too many maps* nor a failed allocation.
use Rattle.std.proofs.Common.{◌≡◌, ◌+◌, inl, inr, List, [], ◌∷◌, ◌++◌, length, refl, subst, zero-add, arith}
use Rattle.std.proofs.lemmas.List.{length-append}
use Rattle.edn_reader.specs.Datum.{Datum}
use Rattle.edn.specs.FirstFaults.{IsFirstFaultBy}
use Rattle.events.specs.declared.event.Event.{Event}
use Rattle.history.specs.declared.fault.HistoryFaultKind.{HistoryFaultKind}
use Rattle.history.specs.declared.fault.HistoryFaultKind.TheVariants.{TooMany, NoMemory}
use Rattle.history.specs.declared.long_reader.LongReader.{LongReader}
use Rattle.history.specs.Maps.{client_of}
use Rattle.history.specs.Faults.{IsMapFault, history_fault_number}
use Rattle.history.specs.Denotes.{event_of, events_of_forms}
use Rattle.history.specs.Seen.{HasFirst, IsFormRead}
use Rattle.history.specs.LongReading.{AreReadAtAnyLength, IsOfPlace}
use Rattle.history.proofs.Reading.{events_push, faultless_push}

pub read_more : (old new : LongReader) (ds : List Datum) (d : Datum) (es : List Event) → AreReadAtAnyLength old ds
    → IsFormRead new.seen ds d es
    → new.maps ≡ old.maps + 1 → AreReadAtAnyLength new (ds ++ d ∷ [])
read_more old new ds d es h r q =
    record {
      kept = r.seen;
      faultless = faultless_push IsMapFault ds d h.faultless r.no_fault;
      count = omega
          (arith, length-append ds (d ∷ []), h.count);
    }

pub events_more : (ds : List Datum) (d : Datum) (es : List Event) → es ≡ event_of (length ds) (client_of d)
    → events_of_forms 0 (ds ++ d ∷ []) ≡ events_of_forms 0 ds ++ es
events_more ds d es is =
    rw (events_push 0 ds d, zero-add (length ds), is) refl

-- a fault of the map is none of its place
pub of_the_map : (ds : List Datum) (d : Datum) (k : HistoryFaultKind) → IsMapFault ds d k → IsOfPlace k → ⊥
of_the_map ds d k h (inl q) = let g : IsMapFault ds d TooMany = subst (IsMapFault ds d) q h in g.2
of_the_map ds d k h (inr q) = let g : IsMapFault ds d NoMemory = subst (IsMapFault ds d) q h in g.2

pub first_of_all : (reader : LongReader) (ds : List Datum) (d : Datum) (k : HistoryFaultKind)
    → AreReadAtAnyLength reader ds → HasFirst IsMapFault ds d k
    → IsFirstFaultBy IsMapFault history_fault_number (ds ++ d ∷ []) reader.maps k
first_of_all reader ds d k h f =
    record {
      earlier = ds;
      form = d;
      later = [];
      split = refl;
      place = h.count;
      stands = f.stands;
      faultless = h.faultless;
      least = f.first;
    }
