-- `after_open` passes over exactly one vector or map (`after_value_is`): each bracket changes by one how many are
-- open, and any other token changes nothing. By induction on the form.
use Rattle.std.proofs.Common.{◌≡◌, ℕ, zero, suc, ◌+◌, ◌-◌, ◌<◌, List, [], ◌∷◌, ◌++◌, refl, ap, ◌∙◌, append_assoc}
use Rattle.std.proofs.Common.{add-one, arith}
use Rattle.edn_reader.specs.Datum.{Datum, atom, vector, dictionary, Items, no_items, item, Entries, no_entries, entry}
use Rattle.edn_reader.specs.Token.{Token, open_vector, close_vector, open_map, close_map, leaf, tokens_of}
use Rattle.edn_reader.specs.Token.{items_tokens, entries_tokens}
use Rattle.edn.specs.Values.{after_open, after_one}

pub after_open_vector : (n : ℕ) (ts : List Token) → 0 < n → after_open n (open_vector ∷ ts) ≡ after_open (n + 1) ts
after_open_vector zero ts h = absurd (omega arith)
after_open_vector (suc n) ts h = rw add-one refl

pub after_open_map : (n : ℕ) (ts : List Token) → 0 < n → after_open n (open_map ∷ ts) ≡ after_open (n + 1) ts
after_open_map zero ts h = absurd (omega arith)
after_open_map (suc n) ts h = rw add-one refl

pub after_close_vector : (n : ℕ) (ts : List Token) → 0 < n → after_open n (close_vector ∷ ts) ≡ after_open (n - 1) ts
after_close_vector zero ts h = absurd (omega arith)
after_close_vector (suc n) ts h = let e : n ≡ suc n - 1 = omega arith in ap (λ (m : ℕ). after_open m ts) e

pub after_close_map : (n : ℕ) (ts : List Token) → 0 < n → after_open n (close_map ∷ ts) ≡ after_open (n - 1) ts
after_close_map zero ts h = absurd (omega arith)
after_close_map (suc n) ts h = let e : n ≡ suc n - 1 = omega arith in ap (λ (m : ℕ). after_open m ts) e

pub after_leaf : (n : ℕ) (d : Datum) (ts : List Token) → 0 < n → after_open n (leaf d ∷ ts) ≡ after_open n ts
after_leaf zero d ts h = absurd (omega arith)
after_leaf (suc n) d ts h = refl

pub after_none : (n : ℕ) → after_open n [] ≡ []
after_none zero = refl
after_none (suc n) = refl

mutual
  pub value_skipped : (d : Datum) (n : ℕ) (ts : List Token)
      → after_open (suc n) (tokens_of d ++ ts) ≡ after_open (suc n) ts
  value_skipped (atom a) n ts = refl
  value_skipped (vector ds) n ts =
      ap (after_open (suc (suc n))) (append_assoc (items_tokens ds) (close_vector ∷ []) ts)
      ∙ items_skipped ds (suc n) (close_vector ∷ ts)
  value_skipped (dictionary es) n ts =
      ap (after_open (suc (suc n))) (append_assoc (entries_tokens es) (close_map ∷ []) ts)
      ∙ entries_skipped es (suc n) (close_map ∷ ts)

  pub items_skipped : (ds : Items) (n : ℕ) (ts : List Token)
      → after_open (suc n) (items_tokens ds ++ ts) ≡ after_open (suc n) ts
  items_skipped no_items n ts = refl
  items_skipped (item d ds) n ts =
      ap (after_open (suc n)) (append_assoc (tokens_of d) (items_tokens ds) ts)
      ∙ value_skipped d n (items_tokens ds ++ ts) ∙ items_skipped ds n ts

  pub entries_skipped : (es : Entries) (n : ℕ) (ts : List Token)
      → after_open (suc n) (entries_tokens es ++ ts) ≡ after_open (suc n) ts
  entries_skipped no_entries n ts = refl
  entries_skipped (entry k d es) n ts =
      ap (after_open (suc n)) (append_assoc (tokens_of d) (entries_tokens es) ts)
      ∙ value_skipped d n (entries_tokens es ++ ts) ∙ entries_skipped es n ts

-- what follows a value
pub after_value_is : (d : Datum) (ts : List Token) → after_one (tokens_of d ++ ts) ≡ ts
after_value_is (atom a) ts = refl
after_value_is (vector ds) ts =
    ap (after_open 1) (append_assoc (items_tokens ds) (close_vector ∷ []) ts) ∙ items_skipped ds 0 (close_vector ∷ ts)
after_value_is (dictionary es) ts =
    ap (after_open 1) (append_assoc (entries_tokens es) (close_map ∷ []) ts) ∙ entries_skipped es 0 (close_map ∷ ts)
