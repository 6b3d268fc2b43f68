-- A text, element by element.
use Rattle.std.specs.Prelude.{◌≡◌, ℕ, Bool, List, [], ◌∷◌, ◌++◌, Option, Some, None}
use Rattle.std.specs.Str.{IsUtf8}
use Rattle.edn_reader.specs.Datum.{Datum, ItemsFit, items_of, max_open}
use Rattle.edn_reader.specs.Spells.{Spells}
use Rattle.edn_reader.specs.Sound.{BeginWith}
use Rattle.edn_reader.specs.Token.{Token, tokens_of, items_tokens}
use Rattle.edn_reader.specs.Truncation.{kept_of, Keep, keep}
use Rattle.edn_reader.specs.Reading.{Next, got}

-- The text begins with these forms, and this rest follows them: what the rest spells, the text
-- spells after them, and it spells nothing else.
pub record SpellsFront (text : List ℕ) (ds : List Datum) (rest : List ℕ) : Type 0 where
  pub begins : BeginWith (items_tokens (items_of ds)) text rest
  pub fits : ItemsFit max_open (items_of ds)
  pub on : (es : List Datum) → Spells es rest → Spells (ds ++ es) text
  pub only : (es : List Datum) → Spells es text
      → (fs : List Datum) × (es ≡ ds ++ fs) × Spells fs rest

-- The text has no element more.
pub record SpellsNothing (text : List ℕ) : Type 0 where
  pub spelled : Spells [] text
  pub only : (es : List Datum) → Spells es text → es ≡ []

-- One element was read, these being the tokens of what is kept of it, and this rest follows it.
pub record ReadsElement (cuts : Bool) (text : List ℕ) (tokens : List Token) (rest : List ℕ) :
    Type 0 where
  pub element : Datum
  pub own : tokens ≡ tokens_of (kept_of cuts element)
  pub front : SpellsFront text (element ∷ []) rest
  pub utf8 : IsUtf8 rest

-- The text begins with one element, and this rest follows it.
pub record PassesElement (text rest : List ℕ) : Type 0 where
  pub element : Datum
  pub front : SpellsFront text (element ∷ []) rest
  pub utf8 : IsUtf8 rest

-- what a text begins with, or that it has no element more
abbrev pub ReadsNext : Bool → List ℕ → List Token → Option (List ℕ) → Type 0
ReadsNext cuts text tokens None = SpellsNothing text
ReadsNext cuts text tokens (Some rest) = ReadsElement cuts text tokens rest

-- the form that a text begins with, which this rest follows, or that it has no element more
abbrev pub GivesForm : List ℕ → Option Datum → List ℕ → Type 0
GivesForm text None rest = SpellsNothing text
GivesForm text (Some d) rest = SpellsFront text (d ∷ []) rest

-- one more token is kept, as far as it is
abbrev pub KeepsToken : Keep → Next → Keep → Type 0
KeepsToken old n new = (t : Token) (r : List ℕ) → n ≡ got t r → new ≡ keep t old
