-- A text in which nothing is wrong up to some byte.
use Rattle.std.specs.Prelude.{◌≡◌, ◌≢◌, ◌↔◌, ℕ, ◌+◌, ◌<◌, ◌≤◌, List, [], ◌∷◌, ◌++◌, length}
use Rattle.std.specs.Str.{IsUtf8}
use Rattle.edn_reader.specs.Datum.{Datum, ItemsFit, items_of, max_open, max_length}
use Rattle.edn_reader.specs.Token.{Token, items_tokens}
use Rattle.edn_reader.specs.Spells.{IsGap, Begins, IsNext, Spells}
use Rattle.edn_reader.specs.declared.fault.EdnFault.{EdnFault}
use Rattle.edn_reader.specs.declared.fault.FaultKind.TheVariants.{TooLong, NoMemory}

-- The bytes begin with these tokens, and this rest follows them.
abbrev pub BeginWith : List Token → List ℕ → List ℕ → Type 0
BeginWith [] bytes rest = bytes ≡ rest
BeginWith (t ∷ ts) bytes rest =
    (remains : List ℕ) × IsNext bytes t remains × BeginWith ts remains rest

-- The text is UTF-8, and begins with the first tokens of some forms, in which keys are distinct and
-- no bracket is too deep. The last of these tokens is at this place, after separators and
-- comments.
pub record IsSoundAt (place : ℕ) (text : List ℕ) : Type 0 where
  pub utf8 : IsUtf8 text
  pub forms : List Datum
  pub fit : ItemsFit max_open (items_of forms)
  pub before : List Token
  pub token : Token
  pub more : List Token
  pub are_first : items_tokens (items_of forms) ≡ before ++ token ∷ more
  pub gap : List ℕ
  pub here : List ℕ
  pub rest : List ℕ
  pub begins : BeginWith before text (gap ++ here)
  pub is_gap : IsGap gap
  pub stands : Begins here token rest
  pub stands_at : place + length here ≡ length text

-- `IsSoundAt` for the rest of a text, which begins at the byte `start` of the text: the place is
-- counted in the full text.
abbrev pub IsSoundFrom : ℕ → ℕ → List ℕ → Type 0
IsSoundFrom start place left = (n : ℕ) × (place ≡ start + n) × IsSoundAt n left

-- the text is not too long to be read
abbrev pub IsShort : List ℕ → Type 0
IsShort text = length text ≤ max_length

-- The text is too long to be read, and E10 says so; or it is not, and spells no forms. An
-- allocation failure is no such fault.
pub record IsUnreadable (text : List ℕ) (e : EdnFault) : Type 0 where
  pub not_memory : e.kind ≢ NoMemory
  pub too_long : (e.kind ≡ TooLong) ↔ (max_length < length text)
  pub nothing : e.kind ≢ TooLong → (ds : List Datum) → Spells ds text → ⊥

-- What stops the reading of a text before its forms are known: the text is unreadable; or an
-- allocation failed, and nothing is wrong up to the token at that place and with it.
abbrev pub IsReadingFault : List ℕ → EdnFault → Type 0
IsReadingFault text e =
    (e.kind ≢ NoMemory → IsUnreadable text e)
    × (e.kind ≡ NoMemory → IsShort text × IsSoundAt e.place text)

-- The text is not too long, and spells forms in which this was found.
abbrev pub SpellsWithFault : {F : Type 0} → (List Datum → F → Type 0) → List ℕ → F → Type 0
SpellsWithFault IsFaultIn text fault =
    IsShort text × (ds : List Datum) × Spells ds text × IsFaultIn ds fault
