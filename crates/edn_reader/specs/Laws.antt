-- What reading and writing promise each other.
use Rattle.std.specs.Prelude.{◌≡◌, ℕ, List, [], ◌∷◌, ◌++◌}
use Rattle.edn_reader.specs.Datum.{Datum, DatumFits, max_open}
use Rattle.edn_reader.specs.Spells.{Spells}
use Rattle.edn_reader.specs.Text.{InProfile, text_of, form_lines}

-- the text of each of these forms spells it
abbrev pub EachSpelled : List Datum → Type 0
EachSpelled [] = Unit {0}
EachSpelled (d ∷ ds) = Spells (d ∷ []) (text_of d) × EachSpelled ds

-- A text spells one list of forms at most.
abbrev pub OneReading : Type 0
OneReading = (ds es : List Datum) (bytes : List ℕ) → Spells ds bytes → Spells es bytes → ds ≡ es

-- The text that is written for a form spells it.
abbrev pub TextSpells : Type 0
TextSpells = (d : Datum) → DatumFits max_open d → InProfile d → Spells (d ∷ []) (text_of d)

-- Two texts with a line feed between them spell the forms of both.
abbrev pub JoinedSpell : Type 0
JoinedSpell =
    (ds es : List Datum) (a b : List ℕ) → Spells ds a → Spells es b
    → Spells (ds ++ es) (a ++ 10 ∷ b)

-- The texts of some forms, each followed by a line feed, spell these forms.
abbrev pub LinesSpell : Type 0
LinesSpell = (ds : List Datum) → EachSpelled ds → Spells ds (form_lines ds)

-- Whole lines: whatever follows them is spelled after their forms.
abbrev pub SpellsBefore : List ℕ → List Datum → Type 0
SpellsBefore lines ds =
    (es : List Datum) (after : List ℕ) → Spells es after → Spells (ds ++ es) (lines ++ after)
