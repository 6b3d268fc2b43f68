-- The forms of a shard say what those of the full history on its objects say, of these objects by their names there:
-- they have no fault where the full history has none, and denote the same events, renamed. In the lemmas m is a map of
-- the full history, n the same in its shard, k the number of an event, and a an action.
use Rattle.std.proofs.Common.{arith, ◌≡◌, ℕ, ◌+◌, ◌==◌, Bool, inl, inr, List, [], ◌∷◌, ◌++◌, All, filter, length, map}
use Rattle.std.proofs.Common.{Option, Some, None, refl, ap, sym, ◌∙◌}
use Rattle.std.specs.List.{AllZip, cons_option}
use Rattle.std.proofs.lemmas.Bool.{eqb-true}
use Rattle.std.proofs.lemmas.List.{map-append}
use Rattle.std.proofs.lemmas.List.Elements.{All-head, All-tail}
use Rattle.model.specs.Lists.{In}
use Rattle.model.proofs.Lists.{in_filter, in_filter_passes, in_middle, in_split}
use Rattle.edn_reader.specs.Datum.{Datum}
use Rattle.events.specs.declared.event.Action.{Action}
use Rattle.events.specs.declared.event.Event.{Event}
use Rattle.events.specs.Events.{IsNamed}
use Rattle.history.specs.Maps.{ClientMap, client_of, clients}
use Rattle.history.specs.Denotes.{action_of, event_of_map, events_of_forms}
use Rattle.history.specs.Faults.{IsFaultlessAtAnyLength}
use Rattle.history.specs.declared.fault.HistoryFaultKind.TheVariants.{BadValue}
use Rattle.history.proofs.FirstFaults.{bad_value}
use Rattle.history.proofs.PartEvents.{events_join}
use Rattle.history.proofs.Proper.{proper_at_any_length}
use Rattle.shards.specs.Dividing.{places_from}
use Rattle.shards.specs.Forms.{is_on, forms_on}
use Rattle.shards.specs.Shards.{AreApart, events_on, renamed, renamed_event, said}
use Rattle.shards.specs.ShardTexts.{IsRenamed, IsSpelled, SaysRenamed, SpelledMap}
use Rattle.shards.proofs.FewerForms.{client_on, clients_on, faultless_from, fine_on_objects}
use Rattle.shards.proofs.FewerMaps.{on}
use Rattle.shards.proofs.RenamedMaps.{AreMapsApart, AreRenamedMaps, are_fine_renamed, same_action}
use Rattle.shards.proofs.RenamedObjects.{named_in}
use Rattle.shards.proofs.Numbers.{said_same}
use Rattle.shards.proofs.Tables.{numbers_kept}

-- forms one by one
abbrev AreRenamedForms : (ℕ → ℕ) → List Datum → List Datum → Type 0
AreRenamedForms name ds es = AllZip (SaysRenamed name) ds es

-- the forms of a shard
abbrev pub own_forms_on : (ℕ → Bool) → List SpelledMap → List Datum
own_forms_on has ms = map (λ m. m.own) (filter (λ m. is_on has m.form) ms)

own_renamed : (name : ℕ → ℕ) (has : ℕ → Bool) (ms : List SpelledMap) → All (IsSpelled name) ms
    → AreRenamedForms name (forms_on has (map (λ m. m.form) ms)) (own_forms_on has ms)
own_renamed name has [] each = tt
own_renamed name has (m ∷ ms) each =
    let rest = own_renamed name has ms (All-tail (IsSpelled name) m ms each) in
    let client = client_on has m.form in
    let first = All-head (IsSpelled name) m ms each in
    grind arith

-- ---- no fault

clients_renamed : (name : ℕ → ℕ) (ds es : List Datum) → AreRenamedForms name ds es
    → AreRenamedMaps name (clients ds) (clients es)
clients_renamed name [] [] h = tt
clients_renamed name (d ∷ ds) (e ∷ es) h =
    let says = h.0 in rw (says.2, says.3) (says.4, clients_renamed name ds es h.1)
clients_renamed name ds es h = absurd h

renamed_client : (name : ℕ → ℕ) (ds es : List Datum) → AreRenamedForms name ds es → (e : Datum) → In e es
    → (n : ClientMap) × (client_of e ≡ Some n)
renamed_client name [] [] h e i = absurd i
renamed_client name (d ∷ ds) (x ∷ es) h e i = elim i [
  | inl q ↦ let says = h.0 in (says.1, ap client_of q ∙ says.3)
  | inr j ↦ renamed_client name ds es h.1 e j
]
renamed_client name ds es h e i = absurd h

-- a map of a client is that of a form
map_form : (ds : List Datum) (m : ClientMap) → In m (clients ds) → (d : Datum) × In d ds × (client_of d ≡ Some m)
map_form [] m i = absurd i
map_form (d ∷ ds) m i = go (client_of d) refl i (λ j. let f = map_form ds m j in (f.0, inr f.1, f.2))
  where
    Found : Type 0
    Found = (e : Datum) × In e (d ∷ ds) × (client_of e ≡ Some m)

    go : (o : Option ClientMap) → client_of d ≡ o → In m (cons_option o (clients ds)) → (In m (clients ds) → Found)
        → Found
    go None q j later = later j
    go (Some c) q j later = elim j [ inl s ↦ (d, inl refl, rw s q) | inr l ↦ later l ]

-- the object of each map of a client is named
map_named : (ds : List Datum) → IsFaultlessAtAnyLength ds → (m : ClientMap) → In m (clients ds)
    → IsNamed (events_of_forms 0 ds) m.object
map_named ds faultless m i =
    let f = map_form ds m i in
    let s = in_split f.0 ds f.1 in go f.0 f.2 s.0 s.1 s.2 (action_of m.type m) refl
  where
    go : (d : Datum) → client_of d ≡ Some m → (earlier later : List Datum) → ds ≡ earlier ++ d ∷ later
        → (a : Option Action) → action_of m.type m ≡ a → IsNamed (events_of_forms 0 ds) m.object
    go d q earlier later is None r = absurd (faultless earlier later d BadValue is (m, q, bad_value m.type m r))
    go d q earlier later is (Some a) r =
        let e : Event =
        record { number = 0 + length earlier; process = m.process; object = m.object; action = a } in
        let after = events_of_forms (0 + length earlier + 1) later in
        named_in (events_of_forms 0 ds) (proper_at_any_length ds faultless) e
        (rw (is, events_join 0 earlier (d ∷ later), q, r) (in_middle e (events_of_forms 0 earlier) after))

maps_apart : (shard_of name : ℕ → ℕ) (ds : List Datum) → IsFaultlessAtAnyLength ds
    → AreApart shard_of name (events_of_forms 0 ds) → (s : ℕ)
    → AreMapsApart name (on (λ x. shard_of x == s) (clients ds))
maps_apart shard_of name ds faultless apart s x y i j q =
    let test = λ (m : ClientMap). shard_of m.object == s in
    apart x.object y.object (map_named ds faultless x (in_filter test x (clients ds) i))
    (map_named ds faultless y (in_filter test y (clients ds) j))
    (eqb-true (shard_of x.object) s (in_filter_passes test x (clients ds) i)
    ∙ sym (eqb-true (shard_of y.object) s (in_filter_passes test y (clients ds) j))) q

pub own_faultless : (shard_of name : ℕ → ℕ) (ms : List SpelledMap) → All (IsSpelled name) ms
    → IsFaultlessAtAnyLength (map (λ m. m.form) ms) → (s : ℕ)
    → AreApart shard_of name (events_of_forms 0 (map (λ m. m.form) ms))
    → IsFaultlessAtAnyLength (own_forms_on (λ x. shard_of x == s) ms)
own_faultless shard_of name ms each faultless s apart =
    let ds = map (λ (m : SpelledMap). m.form) ms in
    let has = λ (x : ℕ). shard_of x == s in
    let own = own_forms_on has ms in
    let are = own_renamed name has ms each in
    faultless_from own (renamed_client name (forms_on has ds) own are)
    (are_fine_renamed name [] [] (on has (clients ds)) (clients own) tt
    (rw (clients_on has ds) at (clients_renamed name (forms_on has ds) own are))
    (maps_apart shard_of name ds faultless apart s) (fine_on_objects has ds faultless))

-- ---- events

-- maps that differ by their objects' names alone make such events
event_renamed : (name : ℕ → ℕ) (k : ℕ) (m n : ClientMap) (a : Option Action) → IsRenamed name m n
    → event_of_map k n a ≡ renamed name (event_of_map k m a)
event_renamed name k m n None r = refl
event_renamed name k m n (Some a) r = rw (r.process, r.object)

events_renamed : (name : ℕ → ℕ) (ds es : List Datum) → AreRenamedForms name ds es → (k : ℕ)
    → events_of_forms k es ≡ renamed name (events_of_forms k ds)
events_renamed name [] [] h k = refl
events_renamed name (d ∷ ds) (e ∷ es) h k =
    let m = h.0.0 in
    let n = h.0.1 in
    let r = h.0.4 in
    cc (
      h.0.2,
      h.0.3,
      events_renamed name ds es h.1 (k + 1),
      same_action name m n r,
      event_renamed name k m n (action_of m.type m) r,
      map-append (renamed_event name) (event_of_map k m (action_of m.type m)) (events_of_forms (k + 1) ds),
    )
events_renamed name ds es h k = absurd h

pub own_events_are : (name : ℕ → ℕ) (has : ℕ → Bool) (ms : List SpelledMap) → All (IsSpelled name) ms
    → events_of_forms 0 (own_forms_on has ms) ≡ renamed name (events_of_forms 0 (forms_on has (map (λ m. m.form) ms)))
own_events_are name has ms each = events_renamed name (forms_on has (map (λ m. m.form) ms)) (own_forms_on has ms)
    (own_renamed name has ms each) 0

-- what the events of the forms on some objects say: their numbers are those of a table
said_on : (has : ℕ → Bool) (ds : List Datum)
    → map said (events_of_forms 0 (forms_on has ds)) ≡ map said (events_on has (events_of_forms 0 ds))
said_on has ds =
    sym (said_same (places_from 0 has ds) (events_of_forms 0 (forms_on has ds))) ∙ ap (map said) (numbers_kept has ds)

-- what renamed events say depends on what the events say
said_renamed : (name : ℕ → ℕ) (es : List Event)
    → map said (renamed name es) ≡ map (λ t. (t.0, name t.1, t.2)) (map said es)
said_renamed name [] = refl
said_renamed name (e ∷ es) = rw (said_renamed name es)

pub own_said : (name : ℕ → ℕ) (has : ℕ → Bool) (ms : List SpelledMap) → All (IsSpelled name) ms
    → map said (events_of_forms 0 (own_forms_on has ms))
    ≡ map said (renamed name (events_on has (events_of_forms 0 (map (λ m. m.form) ms))))
own_said name has ms each =
    let ds = map (λ (m : SpelledMap). m.form) ms in
    ap (map said) (own_events_are name has ms each)
    ∙ (said_renamed name (events_of_forms 0 (forms_on has ds))
    ∙ (ap (map (λ (t : ℕ × ℕ × Action). (t.0, name t.1, t.2))) (said_on has ds)
    ∙ sym (said_renamed name (events_on has (events_of_forms 0 ds)))))
