-- What the pieces of a token buffer stand for.
use Rattle.std.specs.Prelude.{◌≡◌, true, false, ℕ, ◌==◌, if◌then◌else◌, List, [], ◌∷◌, map, Option}
use Rattle.std.specs.Prelude.{Some, None, Result, MatchResult, unwrap_or, option_map}
use Rattle.std.specs.Borrow.{Bor}
use Rattle.edn_reader.specs.Datum.{Atom, nil, boolean, integer, string, keyword, atom}
use Rattle.edn_reader.specs.Spells.{escape_of}
use Rattle.edn_reader.specs.Token as spec
use Rattle.edn_reader.specs.Token.{Token}
use Rattle.edn_reader.specs.Reading.{Next, bad, got}
use Rattle.edn_reader.specs.declared.fault.Stop.{Stop}
use Rattle.edn_reader.specs.declared.fault.Cause.{Cause}
use Rattle.edn_reader.specs.declared.fault.Cause.TheVariants.{NoMemory}
use Rattle.edn_reader.specs.declared.piece.Piece.{Piece}
use Rattle.edn_reader.specs.declared.piece.Piece.TheVariants.{OpenVector, CloseVector, OpenMap}
use Rattle.edn_reader.specs.declared.piece.Piece.TheVariants.{CloseMap}
use Rattle.edn_reader.specs.declared.piece.Piece.TheVariants.{Nil, True, False, Int, Str, Keyword}

-- what is between quotes, with the escapes resolved
abbrev mutual
  pub unquoted : List ℕ → List ℕ
  unquoted [] = []
  unquoted (b ∷ bs) = if b == 92 then unescaped bs else b ∷ unquoted bs

  pub unescaped : List ℕ → List ℕ
  unescaped [] = []
  unescaped (c ∷ cs) = unwrap_or (escape_of c) c ∷ unquoted cs

abbrev pub piece_token : Piece → Token
piece_token OpenVector = spec.open_vector
piece_token CloseVector = spec.close_vector
piece_token OpenMap = spec.open_map
piece_token CloseMap = spec.close_map
piece_token Nil = spec.leaf (atom nil)
piece_token True = spec.leaf (atom (boolean true))
piece_token False = spec.leaf (atom (boolean false))
piece_token (Int z) = spec.leaf (atom (integer z))
piece_token (Str raw) = spec.leaf (atom (string (unquoted raw.now)))
piece_token (Keyword k) = spec.leaf (atom (keyword k.now))

abbrev pub token_buffer_tokens : List Piece → List Token
token_buffer_tokens ps = map piece_token ps

-- a token and what follows it; no memory is taken
abbrev pub GivesPiece : Result (Piece × Bor (List ℕ)) Stop → Next → Type 0
GivesPiece r expected =
    MatchResult r (λ x. expected ≡ got (piece_token x.0) x.1.now) (λ e. (expected ≡ bad)
    × (e.cause ≡ NoMemory → ⊥))

-- a word's own
abbrev pub IsWordPiece : Result Piece Cause → Option Atom → Type 0
IsWordPiece r expected =
    MatchResult r (λ p. option_map (λ a. spec.leaf (atom a)) expected
    ≡ Some (piece_token p)) (λ e. (expected ≡ None)
    × (e ≡ NoMemory → ⊥))
