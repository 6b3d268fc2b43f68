-- Which forms a text spells, in two steps: from bytes to tokens, by what may be before a token,
-- be a token and follow it; and from forms to tokens, by `Token`. Bytes are numbers: 10 is the line
-- feed, 34 the quote, 59 the semicolon, 92 the backslash.
use Rattle.std.specs.Prelude.{◌≡◌, ℕ, zero, suc, ◌+◌, ◌-◌, ◌*◌, ◌^◌, ◌<◌, ◌≤◌, ◌⊎◌, ℤ, pos, negsuc}
use Rattle.std.specs.Prelude.{Bool, true, false, not, ◌&&◌, ◌==◌, List, [], ◌∷◌, ◌++◌, codes}
use Rattle.std.specs.Prelude.{Option, Some, None, if◌then◌else◌}
use Rattle.std.specs.Str.{IsUtf8}
use Rattle.std.specs.List.{list_all}
use Rattle.edn_reader.specs.Datum.{Atom, nil, boolean, integer, string, keyword, Datum, atom}
use Rattle.edn_reader.specs.Datum.{ItemsFit, items_of, max_open}
use Rattle.edn_reader.specs.Token.{Token, open_vector, close_vector, open_map, close_map, leaf}
use Rattle.edn_reader.specs.Token.{items_tokens}
use Rattle.edn_reader.specs.Bytes.{is_separator, is_token_byte, is_digit, is_name}

-- What may be before a token: separators and comments. A comment goes on to its line feed, and
-- `EndsComment` is of the bytes after its semicolon.
abbrev mutual
  pub IsGap : List ℕ → Type 0
  IsGap [] = Unit {0}
  IsGap (b ∷ bs) = ((is_separator b ≡ true) × IsGap bs) ⊎ ((b ≡ 59) × EndsComment bs)

  pub EndsComment : List ℕ → Type 0
  EndsComment [] = ⊥
  EndsComment (b ∷ bs) = ((b ≡ 10) × IsGap bs) ⊎ ((b ≡ 10 → ⊥) × EndsComment bs)

-- What may be after the last token: the same, but the last comment needs no line feed.
abbrev mutual
  pub IsEnding : List ℕ → Type 0
  IsEnding [] = Unit {0}
  IsEnding (b ∷ bs) = ((is_separator b ≡ true) × IsEnding bs) ⊎ ((b ≡ 59) × EndsText bs)

  pub EndsText : List ℕ → Type 0
  EndsText [] = Unit {0}
  EndsText (b ∷ bs) = ((b ≡ 10) × IsEnding bs) ⊎ ((b ≡ 10 → ⊥) × EndsText bs)

-- 0, or digits of which the first is not 0
abbrev pub is_decimal : List ℕ → Bool
is_decimal [] = false
is_decimal (b ∷ []) = is_digit b
is_decimal (b ∷ c ∷ bs) = is_digit b && not (b == 48) && list_all is_digit (c ∷ bs)

-- the number that the digits of n and then these digits make
abbrev pub value_after : ℕ → List ℕ → ℕ
value_after n [] = n
value_after n (b ∷ bs) = value_after (n * 10 + (b - 48)) bs

-- the negative of a number
abbrev pub minus : ℕ → ℤ
minus zero = pos 0
minus (suc n) = negsuc n

-- the digits of an integer of 64 bits
abbrev pub IsPositive : ℤ → List ℕ → Type 0
IsPositive z ds =
    (is_decimal ds ≡ true) × (value_after 0 ds < 2 ^ 63) × (z ≡ pos (value_after 0 ds))

-- the digits after the minus sign of an integer of 64 bits
abbrev pub IsNegative : ℤ → List ℕ → Type 0
IsNegative z ds =
    (is_decimal ds ≡ true) × (value_after 0 ds ≤ 2 ^ 63) × (z ≡ minus (value_after 0 ds))

-- an optional sign, `+` or `-`, before the digits
abbrev pub IsInteger : ℤ → List ℕ → Type 0
IsInteger z own =
    IsPositive z own ⊎ ((ds : List ℕ) × (own ≡ 43 ∷ ds) × IsPositive z ds)
    ⊎ ((ds : List ℕ) × (own ≡ 45 ∷ ds) × IsNegative z ds)

-- The bytes of an element that is no string, vector or map. A keyword has a colon first.
abbrev pub IsWord : Atom → List ℕ → Type 0
IsWord nil own = own ≡ codes "nil"
IsWord (boolean true) own = own ≡ codes "true"
IsWord (boolean false) own = own ≡ codes "false"
IsWord (integer z) own = IsInteger z own
IsWord (string s) own = ⊥
IsWord (keyword k) own = (own ≡ 58 ∷ k) × (is_name k ≡ true)

-- what a byte after a backslash stands for: t, r, n, a backslash and a quote have a meaning
abbrev pub escape_of : ℕ → Option ℕ
escape_of c =
    if c == 116 then Some 9 else if c == 114 then Some 13 else if c == 110 then Some 10 else if c ==
    92 then Some 92 else if c == 34 then Some 34 else None

-- The bytes between the quotes, and the bytes that they stand for. No quote and no backslash
-- is there, except in an escape.
abbrev mutual
  pub IsQuoted : List ℕ → List ℕ → Type 0
  IsQuoted [] s = s ≡ []
  IsQuoted (b ∷ bs) s =
      ((b ≡ 34 → ⊥) × (b ≡ 92 → ⊥) × (t : List ℕ) × (s ≡ b ∷ t) × IsQuoted bs t)
      ⊎ ((b ≡ 92) × IsEscaped bs s)

  pub IsEscaped : List ℕ → List ℕ → Type 0
  IsEscaped [] s = ⊥
  IsEscaped (c ∷ cs) s =
      (e : ℕ) × (t : List ℕ) × (escape_of c ≡ Some e) × (s ≡ e ∷ t) × IsQuoted cs t

-- A word goes as far as it can: what follows it begins with no byte of a word.
abbrev pub EndsToken : List ℕ → Type 0
EndsToken [] = Unit {0}
EndsToken (b ∷ bs) = is_token_byte b ≡ false

-- the bytes begin with a word, and this rest follows it
abbrev pub BeginsWord : List ℕ → Datum → List ℕ → Type 0
BeginsWord bytes d rest =
    (a : Atom) × (own : List ℕ) × (d ≡ atom a) × IsWord a own × EndsToken rest
    × (bytes ≡ own ++ rest)

-- the bytes begin with a string, and this rest follows it
abbrev pub BeginsString : List ℕ → Datum → List ℕ → Type 0
BeginsString bytes d rest =
    (s own : List ℕ) × (d ≡ atom (string s)) × IsQuoted own s × (bytes ≡ 34 ∷ (own ++ 34 ∷ rest))

-- The text begins with this token, and this rest follows it.
abbrev pub Begins : List ℕ → Token → List ℕ → Type 0
Begins bytes open_vector rest = bytes ≡ 91 ∷ rest
Begins bytes close_vector rest = bytes ≡ 93 ∷ rest
Begins bytes open_map rest = bytes ≡ 123 ∷ rest
Begins bytes close_map rest = bytes ≡ 125 ∷ rest
Begins bytes (leaf d) rest = BeginsWord bytes d rest ⊎ BeginsString bytes d rest

-- The text begins with this token, after separators and comments, and this rest follows it.
abbrev pub IsNext : List ℕ → Token → List ℕ → Type 0
IsNext bytes t rest =
    (gap after : List ℕ) × IsGap gap × Begins after t rest × (bytes ≡ gap ++ after)

-- The text is these tokens, with separators and comments round them.
abbrev pub Lexes : List Token → List ℕ → Type 0
Lexes [] bytes = IsEnding bytes
Lexes (t ∷ ts) bytes = (rest : List ℕ) × IsNext bytes t rest × Lexes ts rest

-- The text is UTF-8 and made of the tokens of these forms, in which the keys of each map are
-- distinct and at most 16 vectors and maps are in one another.
pub record Spells (ds : List Datum) (bytes : List ℕ) : Type 0 where
  pub utf8 : IsUtf8 bytes
  pub tokens : Lexes (items_tokens (items_of ds)) bytes
  pub fits : ItemsFit max_open (items_of ds)
