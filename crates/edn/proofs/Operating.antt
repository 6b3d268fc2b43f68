-- The walk over the pairs of a map keeps the value of each key so far (`walk_goes_on`), and at the end has the value
-- of each key, or nothing where no pair has the key (`walk_ends`). By induction along the pairs.
use Rattle.std.proofs.Common.{◌≡◌, ℕ, Bool, true, false, cond, Option, Some, None, List, [], ◌∷◌, ◌++◌, length}
use Rattle.std.proofs.Common.{refl, sym, ap, subst, ◌∙◌, append_assoc, arith}
use Rattle.std.specs.Prelude.{◌==◌}
use Rattle.std.proofs.lemmas.Bool.{eqb-true}
use Rattle.edn_reader.specs.Datum.{keyword, Datum, atom, dictionary, Entries, no_entries, entry, entries_of}
use Rattle.edn_reader.specs.Token.{Token, open_map, close_map, leaf, tokens_of, entries_tokens}
use Rattle.edn_reader.specs.Pieces.{token_buffer_tokens}
use Rattle.edn_reader.specs.declared.Piece.{Piece}
use Rattle.edn_reader.proofs.Prefixes.{not_nothing}
use Rattle.edn.specs.Fields.{same_bytes, value_at}
use Rattle.edn.specs.Values.{IsValue, after_one}
use Rattle.edn.specs.Operations.{HasValues, IsMapWith, onto, NoPair, Walk}
use Rattle.edn.specs.declared.fields.operation.OperationValues.{OperationValues}
use Rattle.edn.proofs.Skipping.{after_value_is}

-- a value that was found, or the next
abbrev or_next : Option Datum → Bool → Datum → Option Datum
or_next None b d = cond b (Some d) None
or_next (Some x) b d = Some x

-- what is found in an entry, or else in those after it with one more, is found in all of them with one more
or_next-cond : (b : Bool) (here : Datum) (next : Option Datum) (shown : Bool) (left : Datum)
    → cond b (Some here) (or_next next shown left) ≡ or_next (cond b (Some here) next) shown left
or_next-cond true here next shown left = refl
or_next-cond false here next shown left = refl

value_at-more : (key l : List ℕ) (d : Datum) (before : List (List ℕ × Datum))
    → value_at key (entries_of (before ++ (l, d) ∷ []))
    ≡ or_next (value_at key (entries_of before)) (same_bytes key l) d
value_at-more key l d [] = refl
value_at-more key l d (p ∷ ps) =
    ap (λ (o : Option Datum). cond (same_bytes key p.0) (Some p.1) o) (value_at-more key l d ps)
    ∙ or_next-cond (same_bytes key p.0) p.1 (value_at key (entries_of ps)) (same_bytes key l) d

kept_by : (found : List Piece) (o : Option Datum) (b : Bool) (d : Datum) → (found ≡ [] → b ≡ false) → IsValue found o
    → IsValue found (or_next o b d)
kept_by found None b d n h = subst (λ (c : Bool). IsValue found (cond c (Some d) None)) (sym (n h)) h
kept_by found (Some x) b d n h = h

-- what was found stays, or this was not the key
pub found_kept : (found : List Piece) (key l : List ℕ) (d : Datum) (before : List (List ℕ × Datum))
    → (found ≡ [] → same_bytes key l ≡ false)
    → IsValue found (value_at key (entries_of before))
    → IsValue found (value_at key (entries_of (before ++ (l, d) ∷ [])))
found_kept found key l d before n h =
    subst (IsValue found) (sym (value_at-more key l d before))
    (kept_by found (value_at key (entries_of before)) (same_bytes key l) d n h)

-- where nothing was found before, the value at hand is taken if its key is the one
taken_by : (value : List Piece) (o : Option Datum) (b : Bool) (d : Datum) (ts : List Token) → b ≡ true → IsValue [] o
    → token_buffer_tokens value ≡ tokens_of d ++ ts → IsValue value (or_next o b d)
taken_by value None b d ts e h q = subst (λ (c : Bool). IsValue value (cond c (Some d) None)) (sym e) (ts, q)
taken_by value (Some x) b d ts e h q = absurd (not_nothing x h.0 h.1)

-- nothing was found, and this is the key's
pub value_taken : (found value : List Piece) (key l : List ℕ) (d : Datum) (ts : List Token)
    (before : List (List ℕ × Datum)) → found ≡ []
    → same_bytes key l ≡ true → IsValue found (value_at key (entries_of before))
    → token_buffer_tokens value ≡ tokens_of d ++ ts → IsValue value (value_at key (entries_of (before ++ (l, d) ∷ [])))
value_taken found value key l d ts before z e h q =
    subst (IsValue value) (sym (value_at-more key l d before))
    (taken_by value (value_at key (entries_of before)) (same_bytes key l) d ts e
    (subst (λ (f : List Piece). IsValue f (value_at key (entries_of before))) z h) q)

-- ---- the loop over the pairs

onto-one : (before : List (List ℕ × Datum)) (k : List ℕ) (d : Datum) (es : Entries)
    → onto before (entry k d es) ≡ onto (before ++ (k, d) ∷ []) es
onto-one [] k d es = refl
onto-one (p ∷ ps) k d es = ap (entry p.0 p.1) (onto-one ps k d es)

onto-none : (before : List (List ℕ × Datum)) → onto before no_entries ≡ entries_of before
onto-none [] = refl
onto-none (p ∷ ps) = ap (entry p.0 p.1) (onto-none ps)

pub walk_starts : (es : Entries) (tokens : List Token) (v : OperationValues)
    → tokens ≡ entries_tokens es ++ close_map ∷ [] → HasValues v (entries_of []) → Walk es tokens v
walk_starts es tokens v h k = record { before = []; left = es; parts = refl; goes_on = h; so_far = k }

-- tokens after a map's bracket are those of a map
pub is_map : (tokens : List Token) (v : OperationValues)
    → ((es : Entries) → tokens ≡ entries_tokens es ++ close_map ∷ [] → HasValues v es)
    → (d : Datum) → open_map ∷ tokens ≡ tokens_of d → IsMapWith v d
is_map tokens v h (dictionary es) e = (es, refl, h es cc)
is_map tokens v h d e = absurd cc

abbrev pub WithPair : OperationValues → OperationValues → List ℕ → List Piece → Type 0
WithPair v new name value =
    (before : List (List ℕ × Datum)) (d : Datum) (ts : List Token) → HasValues v (entries_of before)
    → token_buffer_tokens value ≡ tokens_of d ++ ts → HasValues new (entries_of (before ++ (name, d) ∷ []))

-- a reader of a map that has put one pair more into its values has the entries after this pair left
pub walk_goes_on : (es : Entries) (tokens after : List Token) (v new : OperationValues) (name : List ℕ)
    (value : List Piece)
    → tokens ≡ leaf (atom (keyword name)) ∷ token_buffer_tokens value → after ≡ after_one (token_buffer_tokens value)
    → WithPair v new name value → Walk es tokens v → Walk es after new
walk_goes_on es tokens after v new name value h a put w = by_left w.left refl
  where
    by_left : (left : Entries) → w.left ≡ left → Walk es after new
    by_left no_entries e =
        let z : leaf (atom (keyword name)) ∷ token_buffer_tokens value ≡ close_map ∷ [] =
        sym h ∙ w.goes_on ∙ ap (λ (x : Entries). entries_tokens x ++ close_map ∷ []) e in absurd cc
    by_left (entry k d ds) e =
        let z : leaf (atom (keyword name)) ∷ token_buffer_tokens value ≡ leaf (atom (keyword k))
        ∷ ((tokens_of d ++ entries_tokens ds) ++ close_map ∷ []) =
        sym h ∙ w.goes_on ∙ ap (λ (x : Entries). entries_tokens x ++ close_map ∷ []) e in
        let n : name ≡ k = cc in
        let t : token_buffer_tokens value ≡ (tokens_of d ++ entries_tokens ds) ++ close_map ∷ [] = cc in
        let q : token_buffer_tokens value ≡ tokens_of d ++ (entries_tokens ds ++ close_map ∷ []) =
        t ∙ append_assoc (tokens_of d) (entries_tokens ds) (close_map ∷ []) in
        record {
          before = w.before ++ (name, d) ∷ [];
          left = ds;
          parts = w.parts ∙ ap (onto w.before) (e ∙ ap (λ (x : List ℕ). entry x d ds) (sym n))
              ∙ onto-one w.before name d ds;
          goes_on = a ∙ ap after_one q ∙ after_value_is d (entries_tokens ds ++ close_map ∷ []);
          so_far = put w.before d (entries_tokens ds ++ close_map ∷ []) w.so_far q;
        }

pub walk_ends : (es : Entries) (tokens : List Token) (v : OperationValues) → NoPair tokens → Walk es tokens v
    → HasValues v es
walk_ends es tokens v n w = by_left w.left refl
  where
    by_left : (left : Entries) → w.left ≡ left → HasValues v es
    by_left no_entries e = subst (HasValues v) (sym (w.parts ∙ ap (onto w.before) e ∙ onto-none w.before)) w.so_far
    by_left (entry k d ds) e =
        absurd (n k ((tokens_of d ++ entries_tokens ds) ++ close_map ∷ [])
        (w.goes_on ∙ ap (λ (x : Entries). entries_tokens x ++ close_map ∷ []) e))

-- ---- as the code has them

not_empty : (found : List Piece) (b : Bool) → false ≡ (length found == 0) → found ≡ [] → b ≡ false
not_empty found b h e = let z : (length found == 0) ≡ true = ap (λ (f : List Piece). length f == 0) e in absurd cc

-- a value that was found is still the first of its key after one entry more
pub is_found : (found : List Piece) (key l : List ℕ) → false ≡ (length found == 0)
    → (before : List (List ℕ × Datum)) (d : Datum)
    → IsValue found (value_at key (entries_of before))
    → IsValue found (value_at key (entries_of (before ++ (l, d) ∷ [])))
is_found found key l h before d = found_kept found key l d before (not_empty found (same_bytes key l) h)

pub empty_is : (found : List Piece) → true ≡ (length found == 0) → found ≡ []
empty_is [] h = refl
empty_is (p ∷ ps) h = let z : length (p ∷ ps) ≡ 0 = eqb-true (length (p ∷ ps)) 0 (sym h) in absurd (omega arith)

-- the value at hand is the first of its key, if nothing was found before and its key is the one
pub is_taken : (found value : List Piece) (key l : List ℕ) → true ≡ (length found == 0) → true ≡ same_bytes key l
    → (before : List (List ℕ × Datum)) (d : Datum) (ts : List Token) → IsValue found (value_at key (entries_of before))
    → token_buffer_tokens value ≡ tokens_of d ++ ts → IsValue value (value_at key (entries_of (before ++ (l, d) ∷ [])))
is_taken found value key l z e before d ts h q =
    value_taken found value key l d ts before (empty_is found z) (sym e) h q
