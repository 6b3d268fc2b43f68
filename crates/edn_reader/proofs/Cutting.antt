-- The tokens that are kept of an element, one by one, are those of its truncated form (`kept_tokens`). By induction on
-- the element: a nested value is passed over, an item is kept while there is room, and then the rest is dropped.
use Rattle.std.proofs.Common.{◌≡◌, ℕ, zero, suc, ◌+◌, ◌-◌, Bool, true, false, List, [], ◌∷◌, ◌++◌, refl, sym, ap}
use Rattle.std.proofs.Common.{◌∙◌, append_assoc, add-one, arith}
use Rattle.std.specs.Prelude.{◌==◌}
use Rattle.std.proofs.lemmas.Bool.{ne_eqb}
use Rattle.std.proofs.lemmas.List.{append-nil}
use Rattle.edn_reader.specs.Datum.{nil, keyword, Datum, atom, vector, dictionary, Items, no_items, item, Entries}
use Rattle.edn_reader.specs.Datum.{no_entries, entry}
use Rattle.edn_reader.specs.Token.{Token, open_vector, close_vector, open_map, close_map, leaf, tokens_of}
use Rattle.edn_reader.specs.Token.{items_tokens, entries_tokens}
use Rattle.edn_reader.specs.Truncation.{most_items, truncated_item, truncated_items, truncated_value, truncated_entries}
use Rattle.edn_reader.specs.Truncation.{truncated, kept_of, Keep, nothing_kept, keep_item, pass_over, keep, keep_all}

abbrev at : List Token → Bool → ℕ → ℕ → Keep
at ts m b r = record { tokens = ts; cuts = true; in_map = m; below = b; room = r }

-- ---- what is passed over

module _ (ts : List Token) (m : Bool) where
  past : (t : Token) (n r : ℕ) → keep t (at ts m (suc (suc n)) r) ≡ pass_over t (at ts m (suc (suc n)) r)
  past t n r =
      let z : (suc (suc n) == 0) ≡ false = ne_eqb (suc (suc n)) 0 (λ e. absurd (omega (arith, e))) in
      let o : (suc (suc n) == 1) ≡ false = ne_eqb (suc (suc n)) 1 (λ e. absurd (omega (arith, e))) in
      rw (z, o) refl

  deeper : (t : Token) (n r : ℕ) → pass_over t (at ts m (suc (suc n)) r) ≡ at ts m (suc (suc n) + 1) r
      → keep t (at ts m (suc (suc n)) r) ≡ at ts m (suc (suc (suc n))) r
  deeper t n r e = past t n r ∙ e ∙ ap (λ (b : ℕ). at ts m b r) (add-one (suc (suc n)))

  higher : (t : Token) (n r : ℕ) → pass_over t (at ts m (suc (suc (suc n))) r) ≡ at ts m (suc (suc (suc n)) - 1) r
      → keep t (at ts m (suc (suc (suc n))) r) ≡ at ts m (suc (suc n)) r
  higher t n r e =
      let l : suc (suc (suc n)) - 1 ≡ suc (suc n) = omega arith in
      past t (suc n) r ∙ e ∙ ap (λ (b : ℕ). at ts m b r) l

  -- what is between two brackets
  between_passed : (inner us : List Token) (n r : ℕ) (before remains : Token)
      → keep before (at ts m (suc (suc n)) r) ≡ at ts m (suc (suc (suc n))) r
      → keep remains (at ts m (suc (suc (suc n))) r) ≡ at ts m (suc (suc n)) r
      → keep_all (inner ++ remains ∷ us) (at ts m (suc (suc (suc n))) r)
      ≡ keep_all (remains ∷ us) (at ts m (suc (suc (suc n))) r)
      → keep_all ((before ∷ (inner ++ remains ∷ [])) ++ us) (at ts m (suc (suc n)) r)
      ≡ keep_all us (at ts m (suc (suc n)) r)
  between_passed inner us n r before remains a b h =
      ap (keep_all ((inner ++ remains ∷ []) ++ us)) a
      ∙ ap (λ (vs : List Token). keep_all vs (at ts m (suc (suc (suc n))) r)) (append_assoc inner (remains ∷ []) us)
      ∙ h
      ∙ ap (keep_all us) b

  mutual
    value_passed : (d : Datum) (us : List Token) (n r : ℕ)
        → keep_all (tokens_of d ++ us) (at ts m (suc (suc n)) r) ≡ keep_all us (at ts m (suc (suc n)) r)
    value_passed (atom a) us n r = rw (past (leaf (atom a)) n r) refl
    value_passed (vector ds) us n r =
        between_passed (items_tokens ds) us n r open_vector close_vector (deeper open_vector n r refl)
        (higher close_vector n r refl) (items_passed ds (close_vector ∷ us) (suc n) r)
    value_passed (dictionary es) us n r =
        between_passed (entries_tokens es) us n r open_map close_map (deeper open_map n r refl)
        (higher close_map n r refl) (entries_passed es (close_map ∷ us) (suc n) r)

    items_passed : (ds : Items) (us : List Token) (n r : ℕ)
        → keep_all (items_tokens ds ++ us) (at ts m (suc (suc n)) r) ≡ keep_all us (at ts m (suc (suc n)) r)
    items_passed no_items us n r = refl
    items_passed (item d ds) us n r =
        rw (append_assoc, value_passed d (items_tokens ds ++ us) n r) (items_passed ds us n r)

    entries_passed : (es : Entries) (us : List Token) (n r : ℕ)
        → keep_all (entries_tokens es ++ us) (at ts m (suc (suc n)) r) ≡ keep_all us (at ts m (suc (suc n)) r)
    entries_passed no_entries us n r = refl
    entries_passed (entry k d es) us n r =
        ap (keep_all ((tokens_of d ++ entries_tokens es) ++ us)) (past (leaf (atom (keyword k))) n r)
        ∙ rw (append_assoc, value_passed d (entries_tokens es ++ us) n r) (entries_passed es us n r)

  -- ---- a value that is cut

  -- an item of a vector, whose room is used up
  item_dropped : (d : Datum) (us : List Token) → keep_all (tokens_of d ++ us) (at ts m 1 0) ≡ keep_all us (at ts m 1 0)
  item_dropped (atom a) us = refl
  item_dropped (vector ds) us = rw (append_assoc, items_passed ds (close_vector ∷ us) 0 0) refl
  item_dropped (dictionary es) us = rw (append_assoc, entries_passed es (close_map ∷ us) 0 0) refl

  entries_dropped : (es : Entries) (us : List Token)
      → keep_all (entries_tokens es ++ us) (at ts m 1 0) ≡ keep_all us (at ts m 1 0)
  entries_dropped no_entries us = refl
  entries_dropped (entry k d es) us =
      rw (append_assoc, item_dropped d (entries_tokens es ++ us)) (entries_dropped es us)

  took : (t : Token) (r : ℕ) → keep_item t (at ts m 1 (suc r)) ≡ at (ts ++ t ∷ []) m 1 r
  took t r =
      let z : (suc r == 0) ≡ false = ne_eqb (suc r) 0 (λ e. absurd (omega (arith, e))) in
      let l : suc r - 1 ≡ r = omega arith in
      rw (z, l) refl

item_kept : (d : Datum) (us ts : List Token) (m : Bool) (r : ℕ)
    → keep_all (tokens_of d ++ us) (at ts m 1 (suc r)) ≡ keep_all us (at (ts ++ tokens_of (truncated_item d)) m 1 r)
item_kept (atom a) us ts m r = rw (took ts m (leaf (atom a)) r) refl
item_kept (vector ds) us ts m r =
    ap (λ (k : Keep). keep_all ((items_tokens ds ++ close_vector ∷ []) ++ us) (record k { below = 2 }))
    (took ts m (leaf (atom nil)) r)
    ∙ rw (append_assoc, items_passed (ts ++ leaf (atom nil) ∷ []) m ds (close_vector ∷ us) 0 r) refl
item_kept (dictionary es) us ts m r =
    ap (λ (k : Keep). keep_all ((entries_tokens es ++ close_map ∷ []) ++ us) (record k { below = 2 }))
    (took ts m (leaf (atom nil)) r)
    ∙ rw (append_assoc, entries_passed (ts ++ leaf (atom nil) ∷ []) m es (close_map ∷ us) 0 r) refl

items_kept : (ds : Items) (us ts : List Token) (m : Bool) (r : ℕ)
    → keep_all (items_tokens ds ++ close_vector ∷ us) (at ts m 1 r)
    ≡ keep_all us (at (ts ++ (items_tokens (truncated_items r ds) ++ close_vector ∷ [])) m 0 0)
items_kept no_items us ts m zero = refl
items_kept no_items us ts m (suc r) = refl
items_kept (item d ds) us ts m zero =
    rw (append_assoc, item_dropped ts m d (items_tokens ds ++ close_vector ∷ us), items_kept ds us ts m zero) refl
items_kept (item d ds) us ts m (suc r) =
    rw (
      append_assoc,
      item_kept d (items_tokens ds ++ close_vector ∷ us) ts m r,
      items_kept ds us (ts ++ tokens_of (truncated_item d)) m r,
    ) (simp append_assoc)

vector_kept : (ds : Items) (us ts : List Token) (m : Bool)
    → keep_all (tokens_of (vector ds) ++ us) (at ts m 0 0)
    ≡ keep_all us (at (ts ++ tokens_of (vector (truncated_items most_items ds))) m 0 0)
vector_kept ds us ts m =
    rw (append_assoc, items_kept ds us (ts ++ open_vector ∷ []) m most_items) (simp append_assoc)

value_kept : (d : Datum) (us ts : List Token)
    → keep_all (tokens_of d ++ us) (at ts true 0 0) ≡ keep_all us (at (ts ++ tokens_of (truncated_value d)) true 0 0)
value_kept (atom a) us ts = refl
value_kept (vector ds) us ts = vector_kept ds us ts true
value_kept (dictionary es) us ts =
    rw (append_assoc, entries_dropped (ts ++ open_map ∷ []) true es (close_map ∷ us)) (simp append_assoc)

entries_kept : (es : Entries) (us ts : List Token)
    → keep_all (entries_tokens es ++ us) (at ts true 0 0)
    ≡ keep_all us (at (ts ++ entries_tokens (truncated_entries es)) true 0 0)
entries_kept no_entries us ts = rw append-nil refl
entries_kept (entry k d es) us ts =
    let own = ts ++ leaf (atom (keyword k)) ∷ [] in
    rw (
      append_assoc,
      value_kept d (entries_tokens es ++ us) own,
      entries_kept es us (own ++ tokens_of (truncated_value d)),
    ) (simp append_assoc)

-- ---- an element

abbrev all_of : List Token → Bool → Keep
all_of ts m = record { tokens = ts; cuts = false; in_map = m; below = 0; room = 0 }

whole_tokens : (ts us : List Token) (m : Bool) → keep_all us (all_of ts m) ≡ all_of (ts ++ us) m
whole_tokens ts [] m = rw append-nil refl
whole_tokens ts (t ∷ us) m = one t ∙ rw (whole_tokens (ts ++ t ∷ []) us m) (simp append_assoc)
  where
    one : (u : Token) → keep_all us (keep u (all_of ts m)) ≡ keep_all us (all_of (ts ++ u ∷ []) m)
    one u = grind arith

truncated_tokens : (d : Datum) → (keep_all (tokens_of d) (nothing_kept true)).tokens ≡ tokens_of (truncated d)
truncated_tokens (atom a) = refl
truncated_tokens (vector ds) =
    ap (λ (us : List Token). (keep_all us (nothing_kept true)).tokens) (sym (append-nil (tokens_of (vector ds))))
    ∙ ap (λ (k : Keep). k.tokens) (vector_kept ds [] [] false)
truncated_tokens (dictionary es) = ap (λ (k : Keep). k.tokens) (entries_kept es (close_map ∷ []) (open_map ∷ []))

pub kept_tokens : (cuts : Bool) (d : Datum)
    → (keep_all (tokens_of d) (nothing_kept cuts)).tokens ≡ tokens_of (kept_of cuts d)
kept_tokens true d = truncated_tokens d
kept_tokens false d = ap (λ (k : Keep). k.tokens) (whole_tokens [] (tokens_of d) false)
