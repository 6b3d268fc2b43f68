-- The text that is written for a form.
use Rattle.std.specs.Prelude.{◌≡◌, ℕ, ◌^◌, ◌<◌, ◌==◌, ℤ, pos, negsuc, Bool, true, false}
use Rattle.std.specs.Prelude.{if◌then◌else◌, List, [], ◌∷◌, ◌++◌, codes}
use Rattle.std.specs.Fmt.{signed_decimal}
use Rattle.std.specs.Str.{IsUtf8}
use Rattle.edn_reader.specs.Bytes.{is_name}
use Rattle.edn_reader.specs.Datum.{Atom, nil, boolean, integer, string, keyword, Datum, atom}
use Rattle.edn_reader.specs.Datum.{vector}
use Rattle.edn_reader.specs.Datum.{dictionary, Items, no_items, item, Entries, no_entries, entry}

-- a byte of a string: tab, carriage return, line feed, backslash and quote are escaped
abbrev pub escape_text : ℕ → List ℕ
escape_text b =
    if b == 9 then codes "\\t"
    else if b == 13 then codes "\\r"
    else if b == 10 then codes "\\n"
    else if b == 92 then codes "\\\\"
    else if b == 34 then codes "\\\""
    else b ∷ []

abbrev pub escaped : List ℕ → List ℕ
escaped [] = []
escaped (b ∷ bs) = escape_text b ++ escaped bs

-- a string between its quotes
abbrev pub quoted : List ℕ → List ℕ
quoted s = 34 ∷ (escaped s ++ 34 ∷ [])

-- integers in decimal, keywords after their colon
abbrev pub atom_text : Atom → List ℕ
atom_text nil = codes "nil"
atom_text (boolean true) = codes "true"
atom_text (boolean false) = codes "false"
atom_text (integer z) = signed_decimal z
atom_text (string s) = quoted s
atom_text (keyword k) = 58 ∷ k

-- what is before an element or a pair that is not the first
abbrev pub between : Bool → List ℕ → List ℕ
between true separator = []
between false separator = separator

-- The elements of a vector with a space between them, and the pairs of a map, in their order, as
-- the key, a space and the value, with a comma and a space between them.
abbrev mutual
  pub text_of : Datum → List ℕ
  text_of (atom a) = atom_text a
  text_of (vector ds) = codes "[" ++ (items_text true ds ++ codes "]")
  text_of (dictionary es) = codes "{" ++ (entries_text true es ++ codes "}")

  pub items_text : Bool → Items → List ℕ
  items_text first no_items = []
  items_text first (item d ds) = (between first (codes " ") ++ text_of d) ++ items_text false ds

  pub entries_text : Bool → Entries → List ℕ
  entries_text first no_entries = []
  entries_text first (entry k d es) =
      (between first (codes ", ") ++ ((58 ∷ k) ++ (32 ∷ text_of d))) ++ entries_text false es

-- a pair of a map, after what is between it and the pair before
abbrev pub pair_text : Bool → List ℕ → Datum → List ℕ
pair_text first k d = between first (codes ", ") ++ ((58 ∷ k) ++ (32 ∷ text_of d))

-- the texts of some forms, each followed by a line feed
abbrev pub form_lines : List Datum → List ℕ
form_lines [] = []
form_lines (d ∷ ds) = text_of d ++ 10 ∷ form_lines ds

-- ---- what has a text that can be read back

-- of 64 bits
abbrev pub IsInt64 : ℤ → Type 0
IsInt64 (pos n) = n < 2 ^ 63
IsInt64 (negsuc n) = n < 2 ^ 63

abbrev pub AtomInProfile : Atom → Type 0
AtomInProfile nil = Unit {0}
AtomInProfile (boolean b) = Unit {0}
AtomInProfile (integer z) = IsInt64 z
AtomInProfile (string s) = IsUtf8 s
AtomInProfile (keyword k) = is_name k ≡ true

-- Integers have 64 bits, strings hold characters, and keywords are spelled as keywords. Each
-- `Form` is so.
abbrev mutual
  pub InProfile : Datum → Type 0
  InProfile (atom a) = AtomInProfile a
  InProfile (vector ds) = ItemsInProfile ds
  InProfile (dictionary es) = EntriesInProfile es

  pub ItemsInProfile : Items → Type 0
  ItemsInProfile no_items = Unit {0}
  ItemsInProfile (item d ds) = InProfile d × ItemsInProfile ds

  pub EntriesInProfile : Entries → Type 0
  EntriesInProfile no_entries = Unit {0}
  EntriesInProfile (entry k d es) = (is_name k ≡ true) × InProfile d × EntriesInProfile es
