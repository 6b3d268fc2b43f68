-- A table has one list of short numbers: a number is its digits, which end at the first line feed. And the events
-- of a shard have their own numbers again by the table of the places that their maps have in the full history.
use Rattle.std.proofs.Common.{◌≡◌, ℕ, ◌+◌, ◌^◌, ◌<◌, ◌≤◌, Bool, true, false, cond, List, [], ◌∷◌, ◌++◌, length, decimal}
use Rattle.std.proofs.Common.{All, Option, Some, None, refl, ap, sym, ◌∙◌, arith, append_assoc}
use Rattle.std.specs.List.{list_all}
use Rattle.std.specs.Option.{option_map_or}
use Rattle.std.proofs.lemmas.Fmt.{decimal_injective}
use Rattle.std.proofs.lemmas.List.{get_or_at, length-append, length_push, map-append}
use Rattle.std.proofs.lemmas.List.Elements.{All-append, All-cons, All-head, All-nil, All-tail, filter-append}
use Rattle.edn_reader.specs.Bytes.{is_digit}
use Rattle.edn_reader.specs.Datum.{Datum}
use Rattle.edn_reader.proofs.Decimals.{decimal_is}
use Rattle.events.specs.declared.event.Action.{Action}
use Rattle.events.specs.declared.event.Event.{Event}
use Rattle.history.specs.Maps.{ClientMap, client_of}
use Rattle.history.specs.Denotes.{action_of, event_of_map, event_of, events_of_forms}
use Rattle.shards.specs.Dividing.{numbered_by, places_from, table_text, with_numbers}
use Rattle.shards.specs.Forms.{forms_on, is_on}
use Rattle.shards.specs.Shards.{events_on}
use Rattle.shards.specs.Tables.{AreShort}

-- ---- tables

-- digits end at the first line feed
digits_end : (ds bs xs ys : List ℕ) → list_all is_digit ds ≡ true → list_all is_digit bs ≡ true
    → ds ++ 10 ∷ xs ≡ bs ++ 10 ∷ ys → (ds ≡ bs) × (xs ≡ ys)
digits_end [] [] xs ys h k e = (refl, cc)
digits_end [] (b ∷ bs) xs ys h k e = grind arith
digits_end (d ∷ ds) [] xs ys h k e = grind arith
digits_end (d ∷ ds) (b ∷ bs) xs ys h k e = grind (arith, digits_end ds bs xs ys)

nothing_written : (n : ℕ) (ns : List ℕ) → [] ≡ table_text (n ∷ ns) → ⊥
nothing_written n ns e = omega (arith, simp length-append at (ap length e))

pub one_table : (ns ms : List ℕ) → AreShort ns → AreShort ms → table_text ns ≡ table_text ms → ns ≡ ms
one_table [] [] h k e = refl
one_table [] (m ∷ ms) h k e = absurd (nothing_written m ms e)
one_table (n ∷ ns) [] h k e = absurd (nothing_written n ns (sym e))
one_table (n ∷ ns) (m ∷ ms) h k e =
    let P = λ (x : ℕ). x < 2 ^ 32 in
    let small : n < 2 ^ 32 = All-head P n ns h in
    let little : m < 2 ^ 32 = All-head P m ms k in
    let parts = digits_end (decimal n) (decimal m) (table_text ns) (table_text ms)
    (decimal_is n (omega arith)).digits (decimal_is m (omega arith)).digits e in
    ap (λ x. x ∷ ns) (decimal_injective n m (omega arith) (omega arith) parts.0)
    ∙ ap (λ xs. m ∷ xs) (one_table ns ms (All-tail P n ns h) (All-tail P m ms k) parts.1)

-- ---- the places of maps

-- the place of a form, if it is kept
abbrev place_if : Bool → ℕ → List ℕ
place_if b n = cond b (n ∷ []) []

pub places_small : (n : ℕ) (has : ℕ → Bool) (ds : List Datum) (most : ℕ) → n + length ds ≤ most
    → All (λ k. k < most) (places_from n has ds)
places_small n has [] most h = All-nil (λ k. k < most)
places_small n has (d ∷ ds) most h = All-append (λ k. k < most) (place_if (is_on has d) n) (places_from (n + 1) has ds)
    (own (is_on has d)) (places_small (n + 1) has ds most (omega arith))
  where
    own : (b : Bool) → All (λ k. k < most) (place_if b n)
    own true = All-cons (λ k. k < most) n [] (omega arith) (All-nil (λ k. k < most))
    own false = All-nil (λ k. k < most)

-- ---- one form

-- the event of a map that is kept gets its place
event_placed : (has : ℕ → Bool) (before later : List ℕ) (n : ℕ) (m : ClientMap) (a : Option Action)
    → has m.object ≡ true → with_numbers (before ++ n ∷ later) (event_of_map (length before) m a)
    ≡ events_on has (event_of_map n m a)
event_placed has before later n m None own = refl
event_placed has before later n m (Some a) own =
    let e : Event = record { number = n; process = m.process; object = m.object; action = a } in
    rw (get_or_at before n later 0 (length before) refl, own)

-- the event of a map that is not kept is on none of the objects
form_left : (has : ℕ → Bool) (n : ℕ) (o : Option ClientMap) → option_map_or (λ m. has m.object) o false ≡ false
    → events_on has (event_of n o) ≡ []
form_left has n o other = grind arith

form_placed : (has : ℕ → Bool) (before later : List ℕ) (n : ℕ) (o : Option ClientMap)
    → option_map_or (λ m. has m.object) o false ≡ true
    → with_numbers (before ++ n ∷ later) (event_of (length before) o) ≡ events_on has (event_of n o)
form_placed has before later n None own = absurd cc
form_placed has before later n (Some m) own = event_placed has before later n m (action_of m.type m) own

-- ---- all forms

-- the events of the forms that are kept, after forms with these places
numbers_after : (has : ℕ → Bool) (before : List ℕ) (n : ℕ) (ds : List Datum)
    → with_numbers (before ++ places_from n has ds) (events_of_forms (length before) (forms_on has ds))
    ≡ events_on has (events_of_forms n ds)
numbers_after has before n [] = refl
numbers_after has before n (d ∷ ds) = go (is_on has d) refl (numbers_after has before (n + 1) ds)
    (numbers_after has (before ++ n ∷ []) (n + 1) ds)
  where
    rest : events_on has (event_of n (client_of d) ++ events_of_forms (n + 1) ds)
        ≡ events_on has (event_of n (client_of d)) ++ events_on has (events_of_forms (n + 1) ds)
    rest = filter-append (λ (e : Event). has e.object) (event_of n (client_of d)) (events_of_forms (n + 1) ds)

    go : (b : Bool) → is_on has d ≡ b
        → with_numbers (before ++ places_from (n + 1) has ds) (events_of_forms (length before) (forms_on has ds))
        ≡ events_on has (events_of_forms (n + 1) ds)
        → with_numbers ((before ++ n ∷ []) ++ places_from (n + 1) has ds)
        (events_of_forms (length (before ++ n ∷ [])) (forms_on has ds)) ≡ events_on has (events_of_forms (n + 1) ds)
        → with_numbers (before ++ (place_if b n ++ places_from (n + 1) has ds))
        (events_of_forms (length before) (cond b (d ∷ forms_on has ds) (forms_on has ds)))
        ≡ events_on has (event_of n (client_of d) ++ events_of_forms (n + 1) ds)
    go false q skipped kept = rw (rest, form_left has n (client_of d) q) skipped
    go true q skipped kept =
        let own = before ++ n ∷ places_from (n + 1) has ds in
        let k = length before in
        rw (
          rest,
          map-append (numbered_by own) (event_of k (client_of d)) (events_of_forms (k + 1) (forms_on has ds)),
          form_placed has before (places_from (n + 1) has ds) n (client_of d) q,
        )
        (ap (λ es. events_on has (event_of n (client_of d)) ++ es)
        (rw (length_push before n, append_assoc before (n ∷ []) (places_from (n + 1) has ds)) at kept))

pub numbers_kept : (has : ℕ → Bool) (ds : List Datum)
    → with_numbers (places_from 0 has ds) (events_of_forms 0 (forms_on has ds)) ≡ events_on has (events_of_forms 0 ds)
numbers_kept has ds = numbers_after has [] 0 ds
