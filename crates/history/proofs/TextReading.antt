-- The maps of a text, one by one: what was found stays found, whatever follows.
use Rattle.std.proofs.Common.{◌≡◌, ◌≢◌, ℕ, ◌+◌, ◌≤◌, true, Option, Some, None, List, [], ◌∷◌, ◌++◌, length, refl, arith}
use Rattle.std.specs.Option.{is_some}
use Rattle.std.proofs.lemmas.List.{length-append, take_all, take-append-le}
use Rattle.edn_reader.specs.Datum.{Datum}
use Rattle.edn.proofs.FirstFaults.{first_more}
use Rattle.events.specs.declared.event.Event.{Event}
use Rattle.events.specs.Events.{IsProper}
use Rattle.history.specs.declared.seen.Seen.{Seen}
use Rattle.history.specs.declared.fault.HistoryFault.{HistoryFault}
use Rattle.history.specs.declared.fault.HistoryFaultKind.{HistoryFaultKind}
use Rattle.history.specs.declared.fault.HistoryFaultKind.TheVariants.{NoMemory}
use Rattle.history.specs.declared.text_reader.Reading.{Reading}
use Rattle.history.specs.Faults.{IsHistoryFormFault}
use Rattle.history.specs.Seen.{HasFirst, HasNoFault}
use Rattle.history.specs.Texts.{IsHistoryFaultIn, AreEventsRead, IsHistoryReading}
use Rattle.history.proofs.Reading.{faultless_push}
use Rattle.history.proofs.Proper.{proper_events}

-- more forms after a fault
found_more : (ds : List Datum) (d : Datum) (f : HistoryFault) → IsHistoryFaultIn ds f
    → IsHistoryFaultIn (ds ++ d ∷ []) f
found_more ds d f h = (
  λ n. first_more ds d f.map f.kind (h.0 n),
  λ m.
      let a = h.1 m in
      let within : f.map + 1 ≤ length ds = omega (arith, a.0) in
      (omega (arith, a.0, length-append ds (d ∷ [])), rw (take-append-le (f.map + 1) ds (d ∷ []) within) a.1),
)

-- a fault that was found stays the first with one more form
pub faulty_stays : (r : Reading) (ds : List Datum) (d : Datum) → is_some r.fault ≡ true → IsHistoryReading r ds
    → IsHistoryReading r (ds ++ d ∷ [])
faulty_stays r ds d e h = by_fault r.fault refl e
  where
    by_fault : (o : Option HistoryFault) → r.fault ≡ o → is_some o ≡ true → IsHistoryReading r (ds ++ d ∷ [])
    by_fault None q k = absurd cc
    by_fault (Some f) q k = rw q (found_more ds d f (rw q at h))

-- a reader that found no fault has read the forms
pub are_read : (r : Reading) (ds : List Datum) → r.fault ≡ None → IsHistoryReading r ds
    → AreEventsRead r.seen r.map ds r.events.items
are_read r ds e h = rw e at h

-- what is wrong with the map after those that were read
pub found : (seen : Seen) (number : ℕ) (ds : List Datum) (d : Datum) (es : List Event) (k : HistoryFaultKind)
    → AreEventsRead seen number ds es
    → (k ≢ NoMemory → HasFirst IsHistoryFormFault ds d k) → (k ≡ NoMemory → HasNoFault IsHistoryFormFault ds d)
    → IsHistoryFaultIn (ds ++ d ∷ [])
    (record { kind = k; map = number })
found seen number ds d es k h first none = (
  λ n.
      let f = first n in
      record {
        earlier = ds;
        form = d;
        later = [];
        split = refl;
        place = h.count;
        stands = f.stands;
        faultless = h.faultless;
        least = f.first;
      },
  λ m.
      let long = length-append ds (d ∷ []) in
      let all : length (ds ++ d ∷ []) ≤ number + 1 = omega (arith, long, h.count) in (
        omega (arith, long, h.count),
        rw (take_all (number + 1) (ds ++ d ∷ []) all)
            (faultless_push IsHistoryFormFault ds d h.faultless (none m)),
      ),
)

-- the events of a reader that found no fault are proper
pub proper_reading : (r : Reading) (ds : List Datum) → r.fault ≡ None → IsHistoryReading r ds → IsProper r.events.items
proper_reading r ds e h = let a = are_read r ds e h in rw a.events (proper_events ds a.faultless)
