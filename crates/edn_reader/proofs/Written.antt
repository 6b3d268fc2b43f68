-- The text that is written for a form spells it: by induction on the form, with each token in front of what is spelled
-- after it.
use Rattle.std.proofs.Common.{◌≡◌, ℕ, Bool, true, false, cond, List, [], ◌∷◌, ◌++◌, refl, ap, append_assoc, inl, inr}
use Rattle.std.specs.Prelude.{◌==◌, ◌||◌, not, codes, Some}
use Rattle.std.specs.Fmt.{signed_decimal}
use Rattle.std.proofs.lemmas.Bool.{eqb-true, eqb-false}
use Rattle.edn_reader.specs.Bytes.{is_separator, is_mark, is_token_byte}
use Rattle.edn_reader.specs.Datum.{Atom, nil, boolean, integer, string, keyword, Datum, atom, vector, dictionary, Items}
use Rattle.edn_reader.specs.Datum.{no_items, item, Entries, no_entries, entry}
use Rattle.edn_reader.specs.Token.{Token, open_vector, close_vector, open_map, close_map, leaf, tokens_of, items_tokens}
use Rattle.edn_reader.specs.Token.{entries_tokens}
use Rattle.edn_reader.specs.Spells.{escape_of, IsWord, IsQuoted, EndsToken, Begins, Lexes}
use Rattle.edn_reader.specs.Text.{escaped, atom_text, between, text_of, items_text, entries_text, AtomInProfile}
use Rattle.edn_reader.specs.Text.{InProfile, ItemsInProfile, EntriesInProfile}
use Rattle.edn_reader.proofs.Decimals.{integer_text}

-- ---- strings

-- an escape, and the byte that it stands for
escape_first : (b c e : ℕ) (bs : List ℕ) → (b == e) ≡ true → escape_of c ≡ Some e → IsQuoted (escaped bs) bs
    → IsQuoted (92 ∷ c ∷ escaped bs) (b ∷ bs)
escape_first b c e bs h k ih = inr (refl, (e, bs, k, ap (λ (x : ℕ). x ∷ bs) (eqb-true b e h), ih))

-- by whether b is a tab, a carriage return, a line feed, a backslash or a quote
quoted_by : (b : ℕ) (bs : List ℕ) (t r n k q : Bool) → (b == 9) ≡ t → (b == 13) ≡ r → (b == 10) ≡ n → (b == 92) ≡ k
    → (b == 34) ≡ q → IsQuoted (escaped bs) bs
    → IsQuoted (cond t (codes "\\t")
    (cond r (codes "\\r") (cond n (codes "\\n") (cond k (codes "\\\\") (cond q (codes "\\\"") (b ∷ [])))))
    ++ escaped bs) (b ∷ bs)
quoted_by b bs true r n k q ht hr hn hk hq ih = escape_first b 116 9 bs ht refl ih
quoted_by b bs false true n k q ht hr hn hk hq ih = escape_first b 114 13 bs hr refl ih
quoted_by b bs false false true k q ht hr hn hk hq ih = escape_first b 110 10 bs hn refl ih
quoted_by b bs false false false true q ht hr hn hk hq ih = escape_first b 92 92 bs hk refl ih
quoted_by b bs false false false false true ht hr hn hk hq ih = escape_first b 34 34 bs hq refl ih
quoted_by b bs false false false false false ht hr hn hk hq ih =
    inl (eqb-false b 34 hq, eqb-false b 92 hk, bs, refl, ih)

quoted : (s : List ℕ) → IsQuoted (escaped s) s
quoted [] = refl
quoted (b ∷ bs) = quoted_by b bs (b == 9) (b == 13) (b == 10) (b == 92) (b == 34) refl refl refl refl refl (quoted bs)

-- ---- tokens in front of a text

pub sep_first : (b : ℕ) (ts : List Token) (bytes : List ℕ) → is_separator b ≡ true → Lexes ts bytes
    → Lexes ts (b ∷ bytes)
sep_first b [] bytes h l = inl (h, l)
sep_first b (t ∷ ts) bytes h (rest, (gap, after, g, k, q), l) =
    (rest, (b ∷ gap, after, inl (h, g), k, ap (λ (x : List ℕ). b ∷ x) q), l)

token_first : (bytes : List ℕ) (t : Token) (rest : List ℕ) (ts : List Token) → Begins bytes t rest → Lexes ts rest
    → Lexes (t ∷ ts) bytes
token_first bytes t rest ts k l = (rest, ([], bytes, tt, k, refl), l)

word_first : (a : Atom) (own rest : List ℕ) (ts : List Token) → IsWord a own → EndsToken rest → Lexes ts rest
    → Lexes (leaf (atom a) ∷ ts) (own ++ rest)
word_first a own rest ts w e l = token_first (own ++ rest) (leaf (atom a)) rest ts (inl (a, own, refl, w, e, refl)) l

lexes_atom : (a : Atom) (ts : List Token) (rest : List ℕ) → AtomInProfile a → EndsToken rest → Lexes ts rest
    → Lexes (leaf (atom a) ∷ ts) (atom_text a ++ rest)
lexes_atom nil ts rest p e l = word_first nil (codes "nil") rest ts refl e l
lexes_atom (boolean true) ts rest p e l = word_first (boolean true) (codes "true") rest ts refl e l
lexes_atom (boolean false) ts rest p e l = word_first (boolean false) (codes "false") rest ts refl e l
lexes_atom (integer z) ts rest p e l = word_first (integer z) (signed_decimal z) rest ts (integer_text z p) e l
lexes_atom (string s) ts rest p e l =
    token_first _ (leaf (atom (string s))) rest ts
    (inr (s, escaped s, refl, quoted s, ap (λ (x : List ℕ). 34 ∷ x) (append_assoc (escaped s) (34 ∷ []) rest))) l
lexes_atom (keyword k) ts rest p e l = word_first (keyword k) (58 ∷ k) rest ts (refl, p) e l

-- a separator or a mark ends a word
pub ends_token : (b : ℕ) → (is_separator b || is_mark b) ≡ true → is_token_byte b ≡ false
unfolding is_token_byte
ends_token b h = ap not h

items_end : (ds : Items) (rest : List ℕ) → EndsToken rest → EndsToken (items_text false ds ++ rest)
items_end no_items rest e = e
items_end (item d ds) rest e = ends_token 32 refl

entries_end : (es : Entries) (rest : List ℕ) → EndsToken rest → EndsToken (entries_text false es ++ rest)
entries_end no_entries rest e = e
entries_end (entry k d es) rest e = ends_token 44 refl

between_items : (first : Bool) (ts : List Token) (text : List ℕ) → Lexes ts text
    → Lexes ts (between first (codes " ") ++ text)
between_items true ts text l = l
between_items false ts text l = sep_first 32 ts text refl l

between_entries : (first : Bool) (ts : List Token) (text : List ℕ) → Lexes ts text
    → Lexes ts (between first (codes ", ") ++ text)
between_entries true ts text l = l
between_entries false ts text l = sep_first 44 ts (32 ∷ text) refl (sep_first 32 ts text refl l)

-- tokens between two brackets, whose bytes are b and c
enclosed : (opens closes : Token) (b c : ℕ) (inner ts : List Token) (text rest : List ℕ)
    → Begins (b ∷ (text ++ c ∷ rest)) opens (text ++ c ∷ rest) → Lexes (inner ++ closes ∷ ts) (text ++ c ∷ rest)
    → Lexes ((opens ∷ (inner ++ closes ∷ [])) ++ ts) ((b ∷ (text ++ c ∷ [])) ++ rest)
enclosed opens closes b c inner ts text rest begins inside =
    simp append_assoc (token_first _ opens (text ++ c ∷ rest) (inner ++ closes ∷ ts) begins inside)

mutual
  pub lexes_datum : (d : Datum) (ts : List Token) (rest : List ℕ) → InProfile d → EndsToken rest → Lexes ts rest
      → Lexes (tokens_of d ++ ts) (text_of d ++ rest)
  lexes_datum (atom a) ts rest p e l = lexes_atom a ts rest p e l
  lexes_datum (vector ds) ts rest p e l =
      enclosed open_vector close_vector 91 93 (items_tokens ds) ts (items_text true ds) rest refl
      (lexes_items true ds (close_vector ∷ ts) (93 ∷ rest) p (ends_token 93 refl)
      (token_first _ close_vector rest ts refl l))
  lexes_datum (dictionary es) ts rest p e l =
      enclosed open_map close_map 123 125 (entries_tokens es) ts (entries_text true es) rest refl
      (lexes_entries true es (close_map ∷ ts) (125 ∷ rest) p (ends_token 125 refl)
      (token_first _ close_map rest ts refl l))

  lexes_items : (first : Bool) (ds : Items) (ts : List Token) (rest : List ℕ) → ItemsInProfile ds → EndsToken rest
      → Lexes ts rest → Lexes (items_tokens ds ++ ts) (items_text first ds ++ rest)
  lexes_items first no_items ts rest p e l = l
  lexes_items first (item d ds) ts rest p e l =
      let more : Lexes (items_tokens ds ++ ts) (items_text false ds ++ rest) = lexes_items false ds ts rest p.1 e l in
      let here : Lexes (tokens_of d ++ (items_tokens ds ++ ts)) (text_of d ++ (items_text false ds ++ rest)) =
      lexes_datum d (items_tokens ds ++ ts) (items_text false ds ++ rest) p.0 (items_end ds rest e) more in
      simp append_assoc (between_items first _ _ here)

  lexes_entries : (first : Bool) (es : Entries) (ts : List Token) (rest : List ℕ) → EntriesInProfile es
      → EndsToken rest → Lexes ts rest
      → Lexes (entries_tokens es ++ ts) (entries_text first es ++ rest)
  lexes_entries first no_entries ts rest p e l = l
  lexes_entries first (entry k d es) ts rest p e l =
      let more : Lexes (entries_tokens es ++ ts) (entries_text false es ++ rest) =
      lexes_entries false es ts rest p.2 e l in
      let us : List Token = tokens_of d ++ (entries_tokens es ++ ts) in
      let value : Lexes us (text_of d ++ (entries_text false es ++ rest)) =
      lexes_datum d (entries_tokens es ++ ts) (entries_text false es ++ rest) p.1 (entries_end es rest e) more in
      let here : Lexes (leaf (atom (keyword k)) ∷ us)
      ((58 ∷ k) ++ (32 ∷ (text_of d ++ (entries_text false es ++ rest)))) =
      word_first (keyword k) (58 ∷ k) (32 ∷ (text_of d ++ (entries_text false es ++ rest))) us (refl, p.0)
      (ends_token 32 refl) (sep_first 32 us _ refl value) in
      simp append_assoc (between_entries first (leaf (atom (keyword k)) ∷ us) _ here)
