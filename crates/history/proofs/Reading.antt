-- After each form the history read so far is that of the forms so far (`one_read`), and the first form with a fault
-- is the first fault of all (`first_fault`). By what one more form adds to events and to what is kept.
use Rattle.std.proofs.Common.{◌≡◌, ℕ, ◌+◌, ◌<◌, ◌≤◌, ◌⊎◌, inl, inr, List, [], ◌∷◌, ◌++◌, length, take, drop, get_or}
use Rattle.std.proofs.Common.{zero, suc, zero-add, refl, ap, sym, ◌∙◌, subst, arith}
use Rattle.std.proofs.lemmas.List.{append-nil, length-append, take_all}
use Rattle.edn_reader.specs.Datum.{Datum}
use Rattle.edn_reader.specs.View.{view, views}
use Rattle.edn_reader.specs.declared.form.Form.{Form}
use Rattle.events.specs.declared.event.Event.{Event}
use Rattle.history.specs.declared.seen.Seen.{Seen}
use Rattle.history.specs.declared.fault.HistoryFault.{HistoryFault}
use Rattle.history.specs.declared.fault.HistoryFaultKind.{HistoryFaultKind}
use Rattle.history.specs.Maps.{client_of}
use Rattle.edn.specs.FirstFaults.{AreFaultless}
use Rattle.edn.proofs.FormsRead.{views_more}
use Rattle.history.specs.Faults.{max_maps, IsHistoryFormFault, HasNoHistoryFault, IsFirstFault}
use Rattle.history.specs.Denotes.{event_of, events_of_forms, Denotes}
use Rattle.history.specs.Seen.{IsSeen, HasNoFault, HasFirst, IsFormRead}
use Rattle.history.specs.Texts.{AreEventsRead}
use Rattle.history.proofs.MapLimit.{IsSmall, none_within}
use Rattle.history.proofs.PartEvents.{events_join}

-- the events of forms with one more form at the end
pub events_push : (n : ℕ) (ds : List Datum) (d : Datum)
    → events_of_forms n (ds ++ d ∷ []) ≡ events_of_forms n ds ++ event_of (n + length ds) (client_of d)
events_push n ds d = rw (events_join n ds (d ∷ []), append-nil) refl

-- a split of a longer list
split_push : (ds : List Datum) (d : Datum) (earlier later : List Datum) (e : Datum)
    → ds ++ d ∷ [] ≡ earlier ++ e ∷ later → ((earlier ≡ ds) × (e ≡ d))
    ⊎ ((rest : List Datum) × (ds ≡ earlier ++ e ∷ rest))
split_push [] d [] later e q = inl (refl, let s : d ≡ e = cc in sym s)
split_push [] d (x ∷ earlier) later e q = absurd (omega (arith, simp length-append at (ap length q)))
split_push (y ∷ ds) d [] later e q = inr (ds, let s : y ≡ e = cc in ap (λ z. z ∷ ds) s)
split_push (y ∷ ds) d (x ∷ earlier) later e q =
    let head : y ≡ x = cc in
    let tail : ds ++ d ∷ [] ≡ earlier ++ e ∷ later = cc in
    elim (split_push ds d earlier later e tail) [
      | inl h ↦ inl (ap (λ t. x ∷ t) h.0 ∙ ap (λ z. z ∷ ds) (sym head), h.1)
      | inr h ↦ inr (h.0, ap (λ z. z ∷ ds) head ∙ ap (λ t. x ∷ t) h.1)
    ]

-- forms without a fault, and one more without a fault after them
pub faultless_push : (IsFault : List Datum → Datum → HistoryFaultKind → Type 0) (ds : List Datum) (d : Datum)
    → AreFaultless IsFault ds
    → HasNoFault IsFault ds d → AreFaultless IsFault (ds ++ d ∷ [])
faultless_push IsFault ds d h none earlier later e k q f = elim (split_push ds d earlier later e q) [
  | inl s ↦ none k (rw (s.0, s.1) at f)
  | inr s ↦ h earlier s.0 e k s.1 f
]

-- no forms have no fault
pub nothing_faulty : (IsFault : List Datum → Datum → HistoryFaultKind → Type 0)
    → AreFaultless IsFault []
nothing_faulty IsFault earlier later d k e f = omega (arith, simp length-append at (ap length e))

-- ---- what is read

-- before the first form nothing was read
pub nothing_read : (seen : Seen) (es : List Event) → IsSeen seen [] → es ≡ [] → AreEventsRead seen 0 [] es
nothing_read seen es h e = record { kept = h; faultless = nothing_faulty IsHistoryFormFault; events = e; count = refl }

-- one map more
pub next_form_read : (old new : Seen) (number : ℕ) (ds : List Datum) (d : Datum) (es more : List Event)
    → AreEventsRead old number ds es → number < max_maps → IsSmall d
    → IsFormRead new ds d more → AreEventsRead new (number + 1) (ds ++ d ∷ []) (es ++ more)
next_form_read old new number ds d es more h few small r =
    record {
      kept = r.seen;
      faultless = faultless_push IsHistoryFormFault ds d h.faultless (none_within ds d small r.no_fault
          (rw h.count few));
      events = rw (h.events, r.events, events_push 0 ds d, zero-add (length ds)) refl;
      count = omega (arith, length-append ds (d ∷ []), h.count);
    }

-- ---- the forms so far

-- the forms up to the next one have no fault, if it has none
pub faultless_more : (seen : Seen) (fs : List Form) (i : ℕ) (f : Form) (es : List Event) → i < length fs
    → f ≡ get_or fs i f
    → AreEventsRead seen i (views (take i fs)) es → HasNoFault IsHistoryFormFault (views (take i fs)) (view f)
    → HasNoHistoryFault
    (views (take (i + 1) fs))
faultless_more seen fs i f es l is h none =
    rw (views_more fs i f l is) (faultless_push IsHistoryFormFault (views (take i fs)) (view f) h.faultless none)

-- one form more
pub one_read : (old new : Seen) (fs : List Form) (i : ℕ) (f : Form) (es more : List Event) → i < length fs
    → f ≡ get_or fs i f → i < max_maps → IsSmall (view f)
    → AreEventsRead old i (views (take i fs)) es → IsFormRead new (views (take i fs)) (view f) more
    → AreEventsRead new (i + 1)
    (views (take (i + 1) fs)) (es ++ more)
one_read old new fs i f es more l is few small h r =
    rw (views_more fs i f l is) (next_form_read old new i (views (take i fs)) (view f) es more h few small r)

-- the fault of the next form is the first of all, if the forms before it have none
pub first_fault : (seen : Seen) (fs : List Form) (i : ℕ) (f : Form) (es : List Event) (k : HistoryFaultKind)
    → i < length fs → f ≡ get_or fs i f
    → AreEventsRead seen i (views (take i fs)) es → HasFirst IsHistoryFormFault (views (take i fs)) (view f) k
    → IsFirstFault
    (views fs) (record { kind = k; map = i })
first_fault seen fs i f es k l is h first = record {
  earlier = views (take i fs);
  form = view f;
  later = views (drop (suc i) fs);
  split = reads fs i l ∙ ap (λ x. views (take i fs) ++ view x ∷ views (drop (suc i) fs)) (sym is);
  place = h.count;
  stands = first.stands;
  faultless = h.faultless;
  least = first.first;
}
  where
    reads : (gs : List Form) (j : ℕ) → j < length gs
        → views gs ≡ views (take j gs) ++ view (get_or gs j f) ∷ views (drop (suc j) gs)
    reads [] j m = absurd (omega arith)
    reads (g ∷ gs) zero m = refl
    reads (g ∷ gs) (suc j) m = ap (λ t. view g ∷ t) (reads gs j (omega arith))

-- a fault refutes that the forms denote anything
pub fault_refutes : (ds : List Datum) (fault : HistoryFault) (es : List Event) → IsFirstFault ds fault
    → Denotes ds es → ⊥
fault_refutes ds fault es h d = d.faultless h.earlier h.later h.form fault.kind h.split h.stands

-- forms that were all read without a fault denote their events
pub all_read : (seen : Seen) (fs : List Form) (i : ℕ) (es : List Event) → length fs ≤ i → AreEventsRead seen i
    (views (take i fs)) es → Denotes (views fs) es
all_read seen fs i es l h =
    subst (λ x. Denotes (views x) es) (take_all i fs l) (record { faultless = h.faultless; events = h.events })
