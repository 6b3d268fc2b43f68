-- The tokens that are in a text: their strings are text and their keywords names, and the first stands after
-- separators and comments.
use Rattle.std.proofs.Common.{◌≡◌, ℕ, suc, zero, ◌+◌, ◌-◌, ◌≤◌, List, [], ◌∷◌, ◌++◌, length, refl, sym, ap, ◌∙◌, subst}
use Rattle.std.proofs.Common.{append_assoc, arith, lit<, inl, inr}
use Rattle.std.specs.Prelude.{ℤ, ◌^◌}
use Rattle.std.specs.Str.{IsUtf8}
use Rattle.edn_reader.specs.Datum.{Atom, nil, boolean, integer, string, keyword, Datum, atom, vector, dictionary, Items}
use Rattle.edn_reader.specs.Datum.{no_items, item, Entries, no_entries, entry}
use Rattle.edn_reader.specs.Elements.{SpellsFront}
use Rattle.edn_reader.specs.Reading.{skip}
use Rattle.edn_reader.specs.Sound.{BeginWith, IsSoundFrom}
use Rattle.edn_reader.specs.Spells.{IsWord, IsInteger, IsPositive, IsNegative, minus, Begins}
use Rattle.edn_reader.specs.Text.{IsInt64, AtomInProfile, InProfile, ItemsInProfile, EntriesInProfile}
use Rattle.edn_reader.specs.Token.{Token, open_vector, close_vector, open_map, close_map, leaf, tokens_of, items_tokens}
use Rattle.edn_reader.specs.Token.{entries_tokens}
use Rattle.edn_reader.proofs.Lexical.{skip_within}
use Rattle.edn_reader.proofs.Next.{skip_gap, begins_reads}
use Rattle.edn_reader.proofs.Splits.{after_gap, after_begins, remains, string_at_utf8}
use Rattle.edn_reader.proofs.Strings.{string_from}

-- ---- a token

positive_in : (z : ℤ) (ds : List ℕ) → IsPositive z ds → IsInt64 z
positive_in z ds p = subst IsInt64 (sym p.2) p.1

minus_in : (n : ℕ) → n ≤ 2 ^ 63 → IsInt64 (minus n)
minus_in zero h = omega arith
minus_in (suc n) h = omega arith

negative_in : (z : ℤ) (ds : List ℕ) → IsNegative z ds → IsInt64 z
negative_in z ds p = subst IsInt64 (sym p.2) (minus_in _ p.1)

integer_in : (z : ℤ) (own : List ℕ) → IsInteger z own → IsInt64 z
integer_in z own (inl p) = positive_in z own p
integer_in z own (inr (inl (ds, e, p))) = positive_in z ds p
integer_in z own (inr (inr (ds, e, p))) = negative_in z ds p

word_in : (a : Atom) (own : List ℕ) → IsWord a own → AtomInProfile a
word_in nil own w = tt
word_in (boolean b) own w = tt
word_in (integer z) own w = integer_in z own w
word_in (string s) own w = absurd w
word_in (keyword k) own w = w.1

abbrev TokenIn : Token → Type 0
TokenIn open_vector = Unit {0}
TokenIn close_vector = Unit {0}
TokenIn open_map = Unit {0}
TokenIn close_map = Unit {0}
TokenIn (leaf d) = InProfile d

token_in : (t : Token) (bytes rest : List ℕ) → IsUtf8 bytes → Begins bytes t rest → TokenIn t
token_in (leaf d) bytes rest u (inl (a, own, e, w, k, p)) = subst InProfile (sym e) (word_in a own w)
token_in (leaf d) bytes rest u (inr (s, own, e, q, p)) =
    subst InProfile (sym e)
    (string_at_utf8 (own ++ 34 ∷ rest) s rest (string_from own s rest q)
    (remains 34 (own ++ 34 ∷ rest) (lit< tt) (subst IsUtf8 p u)))
token_in t bytes rest u b = tt

-- ---- all tokens of a form

abbrev TokensIn : List Token → Type 0
TokensIn [] = Unit {0}
TokensIn (t ∷ ts) = TokenIn t × TokensIn ts

tokens_in : (ts : List Token) (text rest : List ℕ) → IsUtf8 text → BeginWith ts text rest → TokensIn ts
tokens_in [] text rest u b = tt
tokens_in (t ∷ ts) text rest u (q, n, b) =
    let v = after_gap text n.0 n.1 n.2 n.4 u in
    (token_in t n.1 q v n.3, tokens_in ts q rest (after_begins n.1 t q n.3 v) b)

mutual
  datum_in : (d : Datum) (ts : List Token) → TokensIn (tokens_of d ++ ts) → InProfile d × TokensIn ts
  datum_in (atom a) ts h = (h.0, h.1)
  datum_in (vector ds) ts h =
      let p = items_in ds (close_vector ∷ ts) (rw (append_assoc (items_tokens ds) (close_vector ∷ []) ts) at h.1) in
      (p.0, p.1.1)
  datum_in (dictionary es) ts h =
      let p = entries_in es (close_map ∷ ts) (rw (append_assoc (entries_tokens es) (close_map ∷ []) ts) at h.1) in
      (p.0, p.1.1)

  items_in : (ds : Items) (ts : List Token) → TokensIn (items_tokens ds ++ ts) → ItemsInProfile ds × TokensIn ts
  items_in no_items ts h = (tt, h)
  items_in (item d ds) ts h =
      let p = datum_in d (items_tokens ds ++ ts) (rw append_assoc at h) in
      let q = items_in ds ts p.1 in
      ((p.0, q.0), q.1)

  entries_in : (es : Entries) (ts : List Token) → TokensIn (entries_tokens es ++ ts) → EntriesInProfile es × TokensIn ts
  entries_in no_entries ts h = (tt, h)
  entries_in (entry k d es) ts h =
      let p = datum_in d (entries_tokens es ++ ts) (rw (append_assoc (tokens_of d) (entries_tokens es) ts) at h.1) in
      let q = entries_in es ts p.1 in
      ((h.0, p.0, q.0), q.1)

-- what is in a text is in the profile
pub element_in : (text rest : List ℕ) (d : Datum) → IsUtf8 text → SpellsFront text (d ∷ []) rest → InProfile d
element_in text rest d u f = (datum_in d [] (tokens_in (tokens_of d ++ []) text rest u f.begins)).0

-- ---- where the first token stands

first_token : (d : Datum) → (t : Token) × (ts : List Token) × (tokens_of d ++ [] ≡ t ∷ ts)
first_token (atom a) = (leaf (atom a), [], refl)
first_token (vector ds) = (open_vector, _, refl)
first_token (dictionary es) = (open_map, _, refl)

pub element_sound : (text rest : List ℕ) (d : Datum) (start place : ℕ) → IsUtf8 text → SpellsFront text (d ∷ []) rest
    → place + length (skip text) ≡ start + length text → IsSoundFrom start place text
element_sound text rest d start place u f e =
    let t = first_token d in
    by_first t.0 t.1 t.2 (subst (λ (ts : List Token). BeginWith ts text rest) t.2 f.begins)
  where
    by_first : (t : Token) (ts : List Token) → tokens_of d ++ [] ≡ t ∷ ts → BeginWith (t ∷ ts) text rest
        → IsSoundFrom start place text
    by_first t ts q (r, n, b) =
        let h : skip text ≡ n.1 = ap skip n.4 ∙ skip_gap n.0 n.1 n.2 (begins_reads n.1 t r n.3).stays in
        let l : length (skip text) ≡ length n.1 = ap length h in
        let w : length (skip text) ≤ length text = skip_within text in (
          length text - length n.1,
          omega arith,
          record {
            utf8 = u;
            forms = d ∷ [];
            fit = f.fits;
            before = [];
            token = t;
            more = ts;
            are_first = q;
            gap = n.0;
            here = n.1;
            rest = r;
            begins = n.4;
            is_gap = n.2;
            stands = n.3;
            stands_at = omega arith;
          },
        )
