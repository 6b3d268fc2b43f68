-- The text that is written for a form is UTF-8: by induction on the form. An escape is ASCII, and the bytes of any
-- other character stay as they are.
use Rattle.std.proofs.Common.{◌≡◌, ℕ, suc, ◌<◌, ◌≤◌, Bool, true, false, cond, List, [], ◌∷◌, ◌++◌, length, get_or, refl}
use Rattle.std.proofs.Common.{sym, ap, subst, append_assoc, arith, inl, inr}
use Rattle.std.specs.Prelude.{◌==◌, nat_lt, codes, ℤ, pos, negsuc}
use Rattle.std.specs.Fmt.{decimal, signed_decimal}
use Rattle.std.specs.List.{list_all}
use Rattle.std.specs.Str.{IsUtf8, IsAscii}
use lib.Utf8.{scalars, scalar, encodes, encode}
use Rattle.std.proofs.lemmas.List.{append-nil}
use Rattle.std.proofs.lemmas.Bool.{and_parts, and_from, ltb-true, lt-ltb, cases_lt}
use Rattle.std.proofs.lemmas.Bool.Decides.{nat_tests}
use Rattle.std.proofs.lemmas.Str.{IsUtf8-append, IsUtf8-from_ascii, IsUtf8-encode, IsUtf8-nil, encode_ascii, inside_one}
use Rattle.std.proofs.lemmas.Str.Ascii.{IsAscii-nil, IsAscii-cons}
use Rattle.edn_reader.specs.Bytes.{is_digit}
use Rattle.edn_reader.specs.Datum.{Atom, nil, boolean, integer, string, keyword, Datum, atom, vector, dictionary, Items}
use Rattle.edn_reader.specs.Datum.{no_items, item, Entries, no_entries, entry}
use Rattle.edn_reader.specs.Text.{escape_text, escaped, atom_text, between, text_of, items_text, entries_text, IsInt64}
use Rattle.edn_reader.specs.Text.{AtomInProfile, InProfile, ItemsInProfile, EntriesInProfile}
use Rattle.edn_reader.specs.Writing.{is_plain}
use Rattle.edn_reader.proofs.Decimals.{decimal_is}
use Rattle.edn_reader.proofs.Escapes.{plain_text}
use Rattle.edn_reader.proofs.Names.{name_utf8}

-- ---- ASCII

abbrev below : ℕ → Bool
below b = nat_lt b 128

ascii : (bs : List ℕ) → list_all below bs ≡ true → IsAscii bs
ascii [] h = IsAscii-nil
ascii (b ∷ bs) h =
    let p = and_parts (below b) (list_all below bs) h in IsAscii-cons b bs (ltb-true b 128 p.0) (ascii bs p.1)

pub ascii_utf8 : (bs : List ℕ) → list_all below bs ≡ true → IsUtf8 bs
ascii_utf8 bs h = IsUtf8-from_ascii bs (ascii bs h)

digit_below : (b : ℕ) → is_digit b ≡ true → below b ≡ true
digit_below b h = grind (arith, nat_tests)

digits_below : (ds : List ℕ) → list_all is_digit ds ≡ true → list_all below ds ≡ true
digits_below [] h = refl
digits_below (b ∷ bs) h =
    let p = and_parts (is_digit b) (list_all is_digit bs) h in
    and_from (below b) (list_all below bs) (digit_below b p.0) (digits_below bs p.1)

integer_utf8 : (z : ℤ) → IsInt64 z → IsUtf8 (signed_decimal z)
integer_utf8 (pos n) h = ascii_utf8 (decimal n) (digits_below (decimal n) (decimal_is n (omega arith)).digits)
integer_utf8 (negsuc n) h =
    ascii_utf8 (45 ∷ decimal (suc n)) (digits_below (decimal (suc n)) (decimal_is (suc n) (omega arith)).digits)

-- ---- strings

-- by whether b is a tab, a carriage return, a line feed, a backslash or a quote
escape_by : (b : ℕ) (t r n k q : Bool) → list_all below (b ∷ []) ≡ true
    → list_all below (cond t (codes "\\t")
    (cond r (codes "\\r") (cond n (codes "\\n") (cond k (codes "\\\\") (cond q (codes "\\\"") (b ∷ [])))))) ≡ true
escape_by b t r n k q h = grind arith

escape_utf8 : (b : ℕ) → b < 128 → IsUtf8 (escape_text b)
escape_utf8 b h = ascii_utf8 (escape_text b)
    (escape_by b (b == 9) (b == 13) (b == 10) (b == 92) (b == 34) (and_from (below b) true (lt-ltb b 128 h) refl))

escaped-append : (xs ys : List ℕ) → escaped (xs ++ ys) ≡ escaped xs ++ escaped ys
escaped-append [] ys = refl
escaped-append (x ∷ xs) ys =
    rw (escaped-append xs ys) (simp append_assoc)

above_plain : (b : ℕ) → 128 ≤ b → is_plain b ≡ true
above_plain b h = grind (arith, nat_tests)

escaped_above : (xs : List ℕ) → ((k : ℕ) → k < length xs → 128 ≤ get_or xs k 0) → escaped xs ≡ xs
escaped_above [] h = refl
escaped_above (x ∷ xs) h =
    let p : escape_text x ≡ x ∷ [] = plain_text x (above_plain x (h 0 (omega arith))) in
    rw p (ap (λ (t : List ℕ). x ∷ t) (escaped_above xs (λ k lt. h (suc k) (omega arith))))

pub bytes_above : (c : ℕ) → 128 ≤ c → (k : ℕ) → k < length (encode c) → 128 ≤ get_or (encode c) k 0
bytes_above c h k lt = elim (cases_lt (get_or (encode c) k 0) 128) [
  | inl b ↦ (let s : c ≡ get_or (encode c) k 0 = inside_one c [] (encode c) k (sym (append-nil (encode c))) lt b in
      omega arith)
  | inr b ↦ b
]

character_utf8 : (c : ℕ) → scalar c ≡ true → IsUtf8 (escaped (encode c))
character_utf8 c h = elim (cases_lt c 128) [
  | inl b ↦ rw (encode_ascii c b, append-nil) (escape_utf8 c b)
  | inr b ↦ rw (escaped_above (encode c) (bytes_above c b)) (IsUtf8-encode c h)
]

characters_utf8 : (cs : List ℕ) → scalars cs ≡ true → IsUtf8 (escaped (encodes cs))
characters_utf8 [] h = IsUtf8-nil
characters_utf8 (c ∷ cs) h =
    let p = and_parts (scalar c) (scalars cs) h in
    rw (escaped-append (encode c) (encodes cs))
    (IsUtf8-append (escaped (encode c)) (escaped (encodes cs)) (character_utf8 c p.0) (characters_utf8 cs p.1))

escaped_utf8 : (s : List ℕ) → IsUtf8 s → IsUtf8 (escaped s)
escaped_utf8 s u = subst (λ (x : List ℕ). IsUtf8 (escaped x)) u.1.1 (characters_utf8 u.0 u.1.0)

-- ---- forms

atom_utf8 : (a : Atom) → AtomInProfile a → IsUtf8 (atom_text a)
atom_utf8 nil p = ascii_utf8 (codes "nil") refl
atom_utf8 (boolean true) p = ascii_utf8 (codes "true") refl
atom_utf8 (boolean false) p = ascii_utf8 (codes "false") refl
atom_utf8 (integer z) p = integer_utf8 z p
atom_utf8 (string s) p =
    IsUtf8-append (34 ∷ []) (escaped s ++ 34 ∷ []) (ascii_utf8 (34 ∷ []) refl)
    (IsUtf8-append (escaped s) (34 ∷ []) (escaped_utf8 s p) (ascii_utf8 (34 ∷ []) refl))
atom_utf8 (keyword k) p = IsUtf8-append (58 ∷ []) k (ascii_utf8 (58 ∷ []) refl) (name_utf8 k p)

between_utf8 : (first : Bool) (s : List ℕ) → IsUtf8 s → IsUtf8 (between first s)
between_utf8 true s u = IsUtf8-nil
between_utf8 false s u = u

mutual
  pub text_utf8 : (d : Datum) → InProfile d → IsUtf8 (text_of d)
  text_utf8 (atom a) p = atom_utf8 a p
  text_utf8 (vector ds) p = IsUtf8-append (codes "[") (items_text true ds ++ codes "]") (ascii_utf8 (codes "[") refl)
      (IsUtf8-append (items_text true ds) (codes "]") (items_utf8 true ds p) (ascii_utf8 (codes "]") refl))
  text_utf8 (dictionary es) p =
      IsUtf8-append (codes "{") (entries_text true es ++ codes "}") (ascii_utf8 (codes "{") refl)
      (IsUtf8-append (entries_text true es) (codes "}") (entries_utf8 true es p) (ascii_utf8 (codes "}") refl))

  items_utf8 : (first : Bool) (ds : Items) → ItemsInProfile ds → IsUtf8 (items_text first ds)
  items_utf8 first no_items p = IsUtf8-nil
  items_utf8 first (item d ds) p =
      IsUtf8-append (between first (codes " ") ++ text_of d) (items_text false ds)
      (IsUtf8-append (between first (codes " ")) (text_of d)
      (between_utf8 first (codes " ") (ascii_utf8 (codes " ") refl)) (text_utf8 d p.0)) (items_utf8 false ds p.1)

  entries_utf8 : (first : Bool) (es : Entries) → EntriesInProfile es → IsUtf8 (entries_text first es)
  entries_utf8 first no_entries p = IsUtf8-nil
  entries_utf8 first (entry k d es) p =
      let key : IsUtf8 (58 ∷ k) = IsUtf8-append (58 ∷ []) k (ascii_utf8 (58 ∷ []) refl) (name_utf8 k p.0) in
      let value : IsUtf8 (32 ∷ text_of d) =
      IsUtf8-append (32 ∷ []) (text_of d) (ascii_utf8 (32 ∷ []) refl) (text_utf8 d p.1) in
      IsUtf8-append (between first (codes ", ") ++ ((58 ∷ k) ++ (32 ∷ text_of d))) (entries_text false es)
      (IsUtf8-append (between first (codes ", ")) ((58 ∷ k) ++ (32 ∷ text_of d))
      (between_utf8 first (codes ", ") (ascii_utf8 (codes ", ") refl))
      (IsUtf8-append (58 ∷ k) (32 ∷ text_of d) key value))
      (entries_utf8 false es p.2)
