-- A text that lost its last lines denotes fewer events than it had maps: each line spells one map, which has one event
-- at most.
use Rattle.std.proofs.Common.{◌≡◌, ◌∙◌, ℕ, ◌+◌, ◌==◌, ◌≤◌, List, [], ◌∷◌, ◌++◌, Option, Some, None, map, length, arith}
use Rattle.std.proofs.Common.{ap, sym, subst, inl, inr, refl, append-nil}
use Rattle.std.proofs.lemmas.List.{length-append, length-map}
use Rattle.model.specs.Lists.{In}
use Rattle.model.proofs.Lists.{all_at, in_filter, in_filter_passes, in_left}
use Rattle.edn_reader.specs.Datum.{Datum}
use Rattle.edn_reader.specs.Spells.{Spells}
use Rattle.edn_reader.proofs.Joined.{joined_spell, nothing_spelled}
use Rattle.edn_reader.proofs.Progress.{one_reading_of}
use Rattle.events.specs.declared.event.Action.{Action}
use Rattle.events.specs.declared.event.Event.{Event}
use Rattle.history.specs.Denotes.{action_of, event_of, event_of_map, events_of_forms}
use Rattle.history.specs.Maps.{ClientMap, client_of}
use Rattle.reading.specs.Texts.{DenotesHistory}
use Rattle.shards.specs.Forms.{is_on}
use Rattle.shards.specs.ShardTexts.{IsSplit, SpelledMap, map_lines, maps_of_shard, IsSpelled}
use Rattle.shards.proofs.FewerForms.{client_on}

-- ---- a form has one event at most

one_event : (n : ℕ) (o : Option ClientMap) → length (event_of n o) ≤ 1
one_event n None = omega arith
one_event n (Some m) = go (action_of m.type m)
  where
    go : (a : Option Action) → length (event_of_map n m a) ≤ 1
    go None = omega arith
    go (Some a) = omega arith

few_events : (n : ℕ) (ds : List Datum) → length (events_of_forms n ds) ≤ length ds
few_events n [] = omega arith
few_events n (d ∷ ds) =
    let own = one_event n (client_of d) in
    let others = few_events (n + 1) ds in
    let both = length-append (event_of n (client_of d)) (events_of_forms (n + 1) ds) in
    omega (arith, own, others, both)

-- ---- lines

-- lines spell the own forms of their maps
lines_spell : (ms : List SpelledMap) → ((m : SpelledMap) → In m ms → Spells (m.own ∷ []) m.text)
    → Spells (map (λ m. m.own) ms) (map_lines ms)
lines_spell [] h = nothing_spelled
lines_spell (m ∷ ms) h =
    joined_spell (m.own ∷ []) (map (λ x. x.own) ms) m.text (map_lines ms) (h m (inl refl))
    (lines_spell ms (λ x i. h x (inr i)))

few_in_lines : (ms : List SpelledMap) → ((m : SpelledMap) → In m ms → Spells (m.own ∷ []) m.text) → (es : List Event)
    → DenotesHistory (map_lines ms) es → length es ≤ length ms
few_in_lines ms each es d =
    let forms = map (λ (m : SpelledMap). m.own) ms in
    let one : d.forms ≡ forms = one_reading_of d.forms forms (map_lines ms) d.spelled (lines_spell ms each) in
    let are : es ≡ events_of_forms 0 forms = d.denoted.events ∙ ap (λ ds. events_of_forms 0 ds) one in
    let few = few_events 0 forms in
    let same = length-map ms (λ (m : SpelledMap). m.own) in
    let long = ap length are in
    omega (arith, few, same, long)

none_lost : (ms : List SpelledMap) → length ms ≡ 0 → ms ≡ []
none_lost [] e = refl
none_lost (m ∷ ms) e = absurd (omega (arith, e))

-- the first lines of a shard's text are the whole text, if they denote as many events as the shard has maps
pub all_lines : {shard_of name : ℕ → ℕ} {whole : List ℕ} {shards : ℕ → List ℕ} (h : IsSplit shard_of name whole shards)
    (s : ℕ) (text : List ℕ) (kept lost : List SpelledMap) (es : List Event)
    → maps_of_shard shard_of s h.maps ≡ kept ++ lost → text ≡ map_lines kept → DenotesHistory text es
    → length es ≡ length (maps_of_shard shard_of s h.maps) → text ≡ shards s
all_lines {shard_of} {name} {whole} {shards} h s text kept lost es are is denotes many =
    let has = λ (x : ℕ). shard_of x == s in
    let test = λ (m : SpelledMap). is_on has m.form in
    let spelled : (m : SpelledMap) → In m kept → Spells (m.own ∷ []) m.text =
    λ m i.
    let among = subst (λ ms. In m ms) (sym are) (in_left m kept lost i) in
    let client = client_on has m.form (in_filter_passes test m h.maps among) in
    (all_at (IsSpelled name) h.maps h.each m (in_filter test m h.maps among) client.0 client.1).1 in
    let few = few_in_lines kept spelled es (subst (λ t. DenotesHistory t es) is denotes) in
    let long = ap length are ∙ length-append kept lost in
    let none = none_lost lost (omega (arith, few, long, many)) in
    let all : maps_of_shard shard_of s h.maps ≡ kept = are ∙ (ap (λ ms. kept ++ ms) none ∙ append-nil kept) in
    is ∙ (ap map_lines (sym all) ∙ sym (h.texts s))
