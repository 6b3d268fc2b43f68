-- The events of joined forms: those of the first forms, and then those of the others with their
-- numbers counted from as many maps earlier; by induction on the forms.
use Rattle.std.proofs.Common.{◌≡◌, ℕ, ◌+◌, List, [], ◌∷◌, ◌++◌, map, length, Option}
use Rattle.std.proofs.Common.{refl, ap, sym, ◌∙◌, append_assoc, zero-add, arith}
use Rattle.std.proofs.lemmas.List.{map-append}
use Rattle.edn_reader.specs.Datum.{Datum}
use Rattle.events.specs.declared.event.Event.{Event}
use Rattle.history.specs.Maps.{ClientMap, client_of}
use Rattle.history.specs.Denotes.{event_of, events_of_forms}
use Rattle.history.specs.Noting.{shift_event}

-- ---- joined forms

pub events_join : (n : ℕ) (ds es : List Datum) → events_of_forms n (ds ++ es)
    ≡ events_of_forms n ds ++ events_of_forms (n + length ds) es
events_join n [] es = ap (λ k. events_of_forms k es) (let e : n ≡ n + 0 = omega arith in e)
events_join n (d ∷ ds) es =
    let e : n + length (d ∷ ds) ≡ n + 1 + length ds = omega arith in
    rw (e, events_join (n + 1) ds es) (simp append_assoc)

shift_one : (n k : ℕ) (c : Option ClientMap) → event_of (n + k) c ≡ map (shift_event n) (event_of k c)
shift_one n k c = grind arith

events_moved : (n k : ℕ) (ds : List Datum) → events_of_forms (n + k) ds ≡ map (shift_event n) (events_of_forms k ds)
events_moved n k [] = refl
events_moved n k (d ∷ ds) =
    let e : n + k + 1 ≡ n + (k + 1) = omega arith in
    rw (shift_one n k (client_of d), e, events_moved n (k + 1) ds)
    (sym (map-append (shift_event n) (event_of k (client_of d)) (events_of_forms (k + 1) ds)))

-- The events of forms after n others are those of the forms alone, moved by n.
events_shift : (n : ℕ) (ds : List Datum) → events_of_forms n ds ≡ map (shift_event n) (events_of_forms 0 ds)
events_shift n ds = ap (λ k. events_of_forms k ds) (let e : n ≡ n + 0 = omega arith in e) ∙ events_moved n 0 ds

-- The events of joined forms are those of the first and, moved by their number, those of the others.
pub events_after : (ds es : List Datum) → events_of_forms 0 (ds ++ es)
    ≡ events_of_forms 0 ds ++ map (shift_event (length ds)) (events_of_forms 0 es)
events_after ds es =
    rw (events_join 0 ds es, zero-add (length ds), events_shift (length ds) es) refl

-- events that are counted from where they are
pub shifted_by_none : (es : List Event) → map (shift_event 0) es ≡ es
shifted_by_none [] = refl
shifted_by_none (e ∷ es) =
    rw (zero-add e.number, shifted_by_none es) refl

-- with nothing before them they are all
pub nothing_before : (n : ℕ) (es more : List Event) → n ≡ 0 → length es ≡ 0 → more ≡ es ++ map (shift_event n) more
nothing_before n [] more none empty = sym (shifted_by_none more) ∙ ap (λ k. map (shift_event k) more) (sym none)
nothing_before n (e ∷ es) more none empty = absurd (omega (arith, empty))
