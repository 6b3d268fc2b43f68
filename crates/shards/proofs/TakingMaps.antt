-- One map more is taken: the lines of its shard grow by it, and the others stay. And what is found at a map is found
-- among all maps of its piece, of which it is one. In the lemmas d is a form, c the client's map that it is, m the map
-- with its text, and s a shard.
use Rattle.std.proofs.Common.{◌≡◌, ◌≢◌, ℕ, zero, suc, ◌+◌, ◌/◌, ◌<◌, ◌≤◌, ◌==◌, decimal, inl, inr, Bool, true, false}
use Rattle.std.proofs.Common.{List, [], ◌∷◌, ◌++◌, All, filter, length, get_or, take, drop, Some, None, refl, ap, sym}
use Rattle.std.proofs.Common.{◌∙◌, append_assoc, zero-add, arith}
use Rattle.std.proofs.lemmas.Bool.{cases_eq, eq-eqb, ne_eqb}
use Rattle.std.proofs.lemmas.List.{append-nil, map-append, length-append, length_push, take_more, take_all}
use Rattle.std.proofs.lemmas.List.{take-append-drop, take-append-le}
use Rattle.std.proofs.lemmas.List.Elements.{All-push}
use Rattle.std.proofs.lemmas.Option.{same_Some}
use Rattle.edn_reader.specs.Datum.{Datum, atom, nil}
use Rattle.edn_reader.specs.Reading.{skip}
use Rattle.edn_reader.specs.Spells.{Spells}
use Rattle.history.specs.LongReading.{AreReadAtAnyLength}
use Rattle.history.specs.Maps.{ClientMap, client_of}
use Rattle.history.specs.MapTexts.{IsMapText, AreMapTexts}
use Rattle.history.specs.Views.{Says}
use Rattle.history.specs.declared.fault.HistoryFault.{HistoryFault}
use Rattle.history.specs.declared.fault.TextFault.TheVariants.{Text, Maps}
use Rattle.history.specs.declared.map_texts.MapText.{MapText}
use Rattle.shards.specs.declared.divider.Divider.{Divider}
use Rattle.shards.specs.declared.fault.PieceFault.{PieceFault}
use Rattle.shards.specs.declared.fault.PieceFault.TheVariants.{Malformed, TooFewShards}
use Rattle.shards.specs.Forms.{is_on}
use Rattle.shards.specs.LargeObjects.{maps_on}
use Rattle.shards.specs.ShardTexts.{IsSpelled, SaysRenamed, SpelledMap, map_lines, maps_of_shard}
use Rattle.shards.specs.Dividing.{Files, ObjectFits, FitsAmong, most_names, name_in_shard, places_from, shard_among}
use Rattle.shards.specs.Dividing.{table_text}
use Rattle.history.specs.Faults.{IsFaultlessAtAnyLength}
use Rattle.shards.specs.SplitFaults.{IsFoundAmong, NeedsMoreShards, most_maps}
use Rattle.shards.specs.Taking.{AddsLine, AddsMap, AreMapsTaken, AreTakenOf, AreTakenWith, IsMapFoundAmong}
use Rattle.shards.specs.Taking.{IsPieceFault, forms_of, waiting_maps, waiting_places}
use Rattle.shards.specs.Tallies.{CountsOne}
use Rattle.shards.proofs.BareMaps.{bare_spells}
use Rattle.shards.proofs.LinesMore.{lines_push, table_push, filter_kept, filter_left_out, places_kept, places_left_out}
use Rattle.shards.proofs.EventsOfMaps.{on_object, on_none}
use Rattle.shards.proofs.LargeObjects.{tally_same}

forms_push : (maps : List SpelledMap) (m : SpelledMap) → forms_of (maps ++ m ∷ []) ≡ forms_of maps ++ m.form ∷ []
forms_push maps m = map-append (λ (x : SpelledMap). x.form) maps (m ∷ [])

-- ---- one map more, in its shard and in another one

module _ (count s : ℕ) (maps : List SpelledMap) (m : SpelledMap) where
  abbrev has : ℕ → Bool
  has x = shard_among count x == s

  abbrev on : SpelledMap → Bool
  on x = is_on has x.form

  abbrev own_text : List SpelledMap → List ℕ
  own_text ms = map_lines (maps_of_shard (shard_among count) s ms)

  abbrev own_table : List SpelledMap → List ℕ
  own_table ms = table_text (places_from 0 has (forms_of ms))

  text_kept : on m ≡ true → own_text (maps ++ m ∷ []) ≡ own_text maps ++ (m.text ++ 10 ∷ [])
  text_kept q = rw (filter_kept on maps m q) (lines_push (maps_of_shard (shard_among count) s maps) m)

  text_left : on m ≡ false → own_text (maps ++ m ∷ []) ≡ own_text maps
  text_left q = ap map_lines (filter_left_out on maps m q)

  table_kept : (place : ℕ) → place ≡ length (forms_of maps) → on m ≡ true
      → own_table (maps ++ m ∷ []) ≡ own_table maps ++ (decimal place ++ 10 ∷ [])
  table_kept place is q =
      rw (forms_push maps m, places_kept 0 has (forms_of maps) m.form q, zero-add (length (forms_of maps)), ← is)
      (table_push (places_from 0 has (forms_of maps)) place)

  table_left : on m ≡ false → own_table (maps ++ m ∷ []) ≡ own_table maps
  table_left q = rw (forms_push maps m, places_left_out 0 has (forms_of maps) m.form q)

  count_kept : on m ≡ true → length (maps_of_shard (shard_among count) s (maps ++ m ∷ []))
      ≡ length (maps_of_shard (shard_among count) s maps) + 1
  count_kept q = rw (filter_kept on maps m q) (length_push (maps_of_shard (shard_among count) s maps) m)

  count_left : on m ≡ false → length (maps_of_shard (shard_among count) s (maps ++ m ∷ []))
      ≡ length (maps_of_shard (shard_among count) s maps)
  count_left q = ap length (filter_left_out on maps m q)

-- a map whose object gets the name that it has in its shard
pub says_by : (k x : ℕ) (d e : Datum) (c : ClientMap) → client_of d ≡ Some c → c.object ≡ x → k ≡ name_in_shard x
    → SaysRenamed (λ y. k) d e → SaysRenamed name_in_shard d e
says_by k x d e c client on_object name h =
    let same = ap (λ (m : ClientMap). m.object) (same_Some h.0 c (sym h.2 ∙ client)) in
    let object = h.4.object ∙ (name ∙ ap name_in_shard (sym (same ∙ on_object))) in
    (h.0, h.1, h.2, h.3, assumption)

-- the map of no client
pub taken_unseen : (count : ℕ) (old new : Divider) (maps : List SpelledMap) (written : Files) (d : Datum)
    → AreMapsTaken count old maps written → AreReadAtAnyLength new.reader (forms_of maps ++ d ∷ [])
    → client_of d ≡ None → new.shards ≡ old.shards → new.tally ≡ old.tally
    → new.waiting.items ≡ old.waiting.items
    → AreTakenWith d count new maps written
taken_unseen count old new maps written d h read none shards tally same =
    let m : SpelledMap = record { form = d; own = d; text = [] } in (
      m,
      refl,
      record {
        shards = shards ∙ h.shards;
        read = rw (forms_push maps m) read;
        each = All-push (IsSpelled name_in_shard) maps m h.each (λ c q. absurd (cc (q, none)));
        fit = All-push (ObjectFits count) maps m h.fit (λ c q. absurd (cc (q, none)));
        tally = rw tally (tally_same old.tally (maps_on maps) (maps_on (maps ++ m ∷ [])) h.tally
            (λ y. ap length (filter_left_out (λ k. is_on (λ z. z == y) k.form) maps m (on_none (λ z. z == y) d none))));
        texts = λ s. cc (h.texts s, text_left count s maps m (off s));
        tables = λ s. cc (h.tables s, table_left count s maps m (off s));
        counts = λ s l. cc (h.counts s l, count_left count s maps m (off s));
      },
    )
  where
    off : (s : ℕ) → is_on (λ x. shard_among count x == s) d ≡ false
    off s = on_none (λ x. shard_among count x == s) d none

-- the map of a client
module _ (count : ℕ) (old new : Divider) (maps : List SpelledMap) (written : Files) (m : SpelledMap) (c : ClientMap)
    (place : ℕ) (h : AreMapsTaken count old maps written) (client : client_of m.form ≡ Some c)
    (is : place ≡ length (forms_of maps))
    (a : AddsLine (shard_among count c.object) m.text place old.waiting.items new.waiting.items) where
  abbrev i : ℕ
  i = shard_among count c.object

  on_own : (s : ℕ) → s ≡ i → is_on (λ x. shard_among count x == s) m.form ≡ true
  on_own s q = on_object (λ x. shard_among count x == s) m.form c client ∙ eq-eqb i s (sym q)

  on_other : (s : ℕ) → s ≢ i → is_on (λ x. shard_among count x == s) m.form ≡ false
  on_other s ne = on_object (λ x. shard_among count x == s) m.form c client ∙ ne_eqb i s (λ q. ne (sym q))

  -- the maps on its object are one more, and those on any other as many as before
  one_counted : maps_on (maps ++ m ∷ []) c.object ≡ maps_on maps c.object + 1
  one_counted =
      let on = λ (k : SpelledMap). is_on (λ y. y == c.object) k.form in
      rw (filter_kept on maps m (on_object (λ y. y == c.object) m.form c client ∙ eq-eqb c.object c.object refl))
      (length_push (filter on maps) m)

  no_more : (y : ℕ) → y ≢ c.object → maps_on (maps ++ m ∷ []) y ≡ maps_on maps y
  no_more y ne = ap length (filter_left_out (λ k. is_on (λ z. z == y) k.form) maps m
      (on_object (λ z. z == y) m.form c client ∙ ne_eqb c.object y (λ q. ne (sym q))))

  taken_line : AreReadAtAnyLength new.reader (forms_of maps ++ m.form ∷ []) → IsSpelled name_in_shard m
      → c.object / most_names < count → new.shards ≡ old.shards → CountsOne c.object old.tally new.tally
      → AreMapsTaken count new (maps ++ m ∷ []) written
  taken_line read spells fits shards counts = record {
    shards = shards ∙ h.shards;
    read = rw (forms_push maps m) read;
    each = All-push (IsSpelled name_in_shard) maps m h.each spells;
    fit = All-push (ObjectFits count) maps m h.fit (λ k q. rw (same_Some k c (sym q ∙ client)) fits);
    tally = counts (maps_on maps) (maps_on (maps ++ m ∷ [])) h.tally one_counted no_more;
    texts = λ s. elim (cases_eq s i) [
      | inl q ↦
          let joined = append_assoc (written.texts s) (waiting_maps old.waiting.items s) (m.text ++ 10 ∷ []) in
          cc (a.maps, joined, h.texts s, text_kept count s maps m (on_own s q))
      | inr ne ↦ cc (a.other_maps s ne, h.texts s, text_left count s maps m (on_other s ne))
    ];
    tables = λ s. elim (cases_eq s i) [
      | inl q ↦
          let row = decimal place ++ 10 ∷ [] in
          let joined = append_assoc (written.tables s) (waiting_places old.waiting.items s) row in
          cc (a.places, joined, h.tables s, table_kept count s maps m place is (on_own s q))
      | inr ne ↦ cc (a.other_places s ne, h.tables s, table_left count s maps m (on_other s ne))
    ];
    counts = λ s l. elim (cases_eq s i) [
      | inl q ↦ cc (a.count, h.counts s l, count_kept count s maps m (on_own s q))
      | inr ne ↦ cc (a.other_counts s ne, h.counts s l, count_left count s maps m (on_other s ne))
    ];
  }

-- a client's map, that is one of the maps so far after it was added to its shard
pub taken_map : (count : ℕ) (old new : Divider) (maps : List SpelledMap) (written : Files) (d : Datum)
    (c : ClientMap) (place : ℕ) → AreMapsTaken count old maps written
    → AreReadAtAnyLength new.reader (forms_of maps ++ d ∷ []) → client_of d ≡ Some c
    → c.object / most_names < old.shards → place ≡ length (forms_of maps) → new.shards ≡ old.shards
    → CountsOne c.object old.tally new.tally
    → AddsMap old.shards d c.object place old.waiting.items new.waiting.items
    → AreTakenWith d count new maps written
taken_map count old new maps written d c place h read client fits is shards counts a =
    let m : SpelledMap = record { form = d; own = a.own; text = a.text } in (
      m,
      refl,
      taken_line count old new maps written m c place h client is (rw h.shards at a.adds) read
          (λ k q. (a.says, a.spells)) (rw h.shards at fits) shards counts,
    )

-- ---- the maps of a piece

length_all : (ms : List MapText) (ds : List Datum) → AreMapTexts ms ds → length ds ≡ length ms
length_all [] [] h = refl
length_all (m ∷ ms) (d ∷ ds) h = ap suc (length_all ms ds h.1)
length_all ms ds h = absurd h

at_all : (ms : List MapText) (ds : List Datum) (i : ℕ) (z : MapText) (x : Datum) → AreMapTexts ms ds
    → i < length ms → IsMapText (get_or ms i z) (get_or ds i x)
at_all [] ds i z x h l = absurd (omega arith)
at_all (m ∷ ms) [] i z x h l = absurd h
at_all (m ∷ ms) (d ∷ ds) zero z x h l = h.0
at_all (m ∷ ms) (d ∷ ds) (suc i) z x h l = at_all ms ds i z x h.1 (omega arith)

-- Of the maps of a piece, which are of these forms, this number was taken.
pub record AreTakenUpTo (i : ℕ) (ds : List Datum) (count : ℕ) (d : Divider) (maps : List SpelledMap)
    (written : Files) : Type 0 where
  pub more : List SpelledMap
  pub are : forms_of more ≡ take i ds
  pub taken : AreMapsTaken count d (maps ++ more) written

pub none_taken : (ds : List Datum) (count : ℕ) (d : Divider) (maps : List SpelledMap) (written : Files)
    → AreMapsTaken count d maps written → AreTakenUpTo 0 ds count d maps written
none_taken ds count d maps written h = record {
  more = [];
  are = refl;
  taken = rw (append-nil maps) h;
}

-- all maps of the piece were taken
pub all_taken : (count : ℕ) (d : Divider) (maps : List SpelledMap) (written : Files) (piece : List ℕ)
    (ms : List MapText) (ds : List Datum) (i : ℕ) → AreMapTexts ms ds → Spells ds piece → length ms ≤ i
    → AreTakenUpTo i ds count d maps written → AreTakenOf piece count d maps written
all_taken count d maps written piece ms ds i h spells l t = record {
  more = t.more;
  spells = rw (t.are, take_all i ds (omega (arith, l, length_all ms ds h))) spells;
  taken = t.taken;
}

-- ---- what is found at a map

-- no form is faulty before one that is too many
pub all_before : (ds : List Datum) (d : Datum) → length ds ≡ most_maps → IsFaultlessAtAnyLength ds
    → IsFaultlessAtAnyLength (take most_maps (ds ++ d ∷ []))
all_before ds d long faultless =
    let within : most_maps ≤ length ds = omega (arith, long) in
    rw (take-append-le most_maps ds (d ∷ []) within, take_all most_maps ds (omega (arith, long))) faultless

found_more : (ds es : List Datum) (f : HistoryFault) → IsFoundAmong ds f → IsFoundAmong (ds ++ es) f
found_more ds es f h = (
  λ few. let g = h.0 few in record {
    earlier = g.earlier;
    form = g.form;
    later = g.later ++ es;
    split = ap (λ xs. xs ++ es) g.split ∙ append_assoc g.earlier (g.form ∷ g.later) es;
    place = g.place;
    stands = g.stands;
    faultless = g.faultless;
    least = g.least;
  },
  λ many. let g = h.1 many in
      let within : most_maps ≤ length ds = omega (arith, g.1) in
      (g.0, omega (arith, g.1, length-append ds es), rw (take-append-le most_maps ds es within) g.2),
)

unfit_more : (count : ℕ) (ds es : List Datum) (x : ℕ) → NeedsMoreShards count ds x
    → NeedsMoreShards count (ds ++ es) x
unfit_more count ds es x h = record {
  earlier = h.earlier;
  form = h.form;
  later = h.later ++ es;
  split = ap (λ xs. xs ++ es) h.split ∙ append_assoc h.earlier (h.form ∷ h.later) es;
  faultless = h.faultless;
  map = h.map;
  client = h.client;
  on_object = h.on_object;
  unfit = h.unfit;
  first = h.first;
}

-- the object of the last map does not fit
pub unfit_last : (count : ℕ) (ds : List Datum) (d : Datum) (c : ClientMap) → IsFaultlessAtAnyLength (ds ++ d ∷ [])
    → client_of d ≡ Some c → count ≤ c.object / most_names → All (FitsAmong count) ds
    → NeedsMoreShards count (ds ++ d ∷ []) c.object
unfit_last count ds d c faultless client unfit fit = record {
  earlier = ds;
  form = d;
  later = [];
  split = refl;
  faultless = faultless;
  map = c;
  client = client;
  on_object = refl;
  unfit = unfit;
  first = fit;
}

-- ---- the next map of a piece

module _ (ms : List MapText) (ds : List Datum) (i : ℕ) (z : MapText) (h : AreMapTexts ms ds) (l : i < length ms) where
  abbrev form : Datum
  form = get_or ds i (atom nil)

  is_text : IsMapText (get_or ms i z) form
  is_text = at_all ms ds i z (atom nil) h l

  one_form : take (i + 1) ds ≡ take i ds ++ form ∷ []
  one_form = let long = length_all ms ds h in take_more ds i (atom nil) (omega arith)

  -- one map more of a piece was taken, this one
  pub map_taken : (count : ℕ) (mid new : Divider) (maps : List SpelledMap) (written : Files) (text : List ℕ)
      → text ≡ skip (get_or ms i z).text.now
      → ((more : List SpelledMap) (d : Datum) → Says (get_or ms i z).said d → Spells (d ∷ []) text
      → AreMapsTaken count mid more written → AreTakenWith d count new more written)
      → AreTakenUpTo i ds count mid maps written → AreTakenUpTo (i + 1) ds count new maps written
  map_taken count mid new maps written text bare take_one t =
      let spells : Spells (form ∷ []) text = rw bare (bare_spells form (get_or ms i z).text.now is_text.spelled) in
      let one = take_one (maps ++ t.more) form is_text.says spells t.taken in
      record {
        more = t.more ++ one.0 ∷ [];
        are = rw (forms_push t.more one.0, one.1, t.are, one_form);
        taken = rw (← append_assoc maps t.more (one.0 ∷ [])) one.2;
      }

  -- what is found at this map is found among all maps of the piece
  found_in_all : (maps more : List SpelledMap) (Found : List Datum → Type 0)
      → ((xs es : List Datum) → Found xs → Found (xs ++ es)) → forms_of more ≡ take i ds
      → Found (forms_of (maps ++ more) ++ form ∷ []) → Found (forms_of maps ++ ds)
  found_in_all maps more Found longer are found =
      let rest : List Datum = drop (i + 1) ds in
      let all : (forms_of (maps ++ more) ++ form ∷ []) ++ rest ≡ forms_of maps ++ ds =
      rw (
        map-append (λ (x : SpelledMap). x.form) maps more,
        are,
        append_assoc (forms_of maps) (take i ds) (form ∷ []),
        ← one_form,
        append_assoc (forms_of maps) (take (i + 1) ds) rest,
        take-append-drop (i + 1) ds,
      ) in
      rw all at (longer (forms_of (maps ++ more) ++ form ∷ []) rest found)

  -- a fault that is found at one form of a piece is the piece's
  pub piece_fault : (count : ℕ) (d : Divider) (maps : List SpelledMap) (written : Files) (piece : List ℕ)
      (f : PieceFault) → Spells ds piece → AreTakenUpTo i ds count d maps written
      → ((more : List SpelledMap) (e : Datum) → Says (get_or ms i z).said e → AreMapsTaken count d more written
      → IsMapFoundAmong count (forms_of more ++ e ∷ []) f)
      → IsPieceFault count (forms_of maps) piece f
  piece_fault count d maps written piece (Malformed (Text e)) spells t found =
      absurd (found (maps ++ t.more) form is_text.says t.taken)
  piece_fault count d maps written piece (Malformed (Maps f)) spells t found = λ few. (
    ds,
    spells,
    found_in_all maps t.more (λ xs. IsFoundAmong xs f) (λ xs es. found_more xs es f) t.are
        (found (maps ++ t.more) form is_text.says t.taken few),
  )
  piece_fault count d maps written piece (TooFewShards x) spells t found = (
    ds,
    spells,
    found_in_all maps t.more (λ xs. NeedsMoreShards count xs x) (λ xs es. unfit_more count xs es x) t.are
        (found (maps ++ t.more) form is_text.says t.taken),
  )
