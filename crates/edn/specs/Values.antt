-- The values that a map has for its keys, on a token buffer.
use Rattle.std.specs.Prelude.{◌≡◌, pos, negsuc, ℕ, zero, suc, List, [], ◌∷◌, ◌++◌, Option, Some}
use Rattle.std.specs.Prelude.{None}
use Rattle.edn_reader.specs.Datum.{nil, boolean, integer, string, keyword, Datum, atom, vector}
use Rattle.edn_reader.specs.Datum.{dictionary}
use Rattle.edn_reader.specs.Token.{Token, open_vector, close_vector, open_map, close_map, leaf}
use Rattle.edn_reader.specs.Token.{tokens_of}
use Rattle.edn_reader.specs.Pieces.{token_buffer_tokens}
use Rattle.edn_reader.specs.Shapes.{key_in}
use Rattle.edn_reader.specs.declared.Piece.{Piece}

-- the token buffer begins with the value's tokens, or there is no value and it is empty
abbrev pub IsValue : List Piece → Option Datum → Type 0
IsValue ps None = ps ≡ []
IsValue ps (Some d) = (ts : List Token) × (token_buffer_tokens ps ≡ tokens_of d ++ ts)

-- what follows this many closing brackets, except for those of what is opened here
abbrev pub after_open : ℕ → List Token → List Token
after_open zero ts = ts
after_open (suc n) [] = []
after_open (suc n) (open_vector ∷ ts) = after_open (suc (suc n)) ts
after_open (suc n) (open_map ∷ ts) = after_open (suc (suc n)) ts
after_open (suc n) (close_vector ∷ ts) = after_open n ts
after_open (suc n) (close_map ∷ ts) = after_open n ts
after_open (suc n) (leaf d ∷ ts) = after_open (suc n) ts

-- what follows the element at the front
abbrev pub after_one : List Token → List Token
after_one [] = []
after_one (open_vector ∷ ts) = after_open 1 ts
after_one (open_map ∷ ts) = after_open 1 ts
after_one (close_vector ∷ ts) = ts
after_one (close_map ∷ ts) = ts
after_one (leaf d ∷ ts) = ts

-- the number that a form is, which is not negative
abbrev pub natural_of : Datum → Option ℕ
natural_of (atom nil) = None
natural_of (atom (boolean b)) = None
natural_of (atom (integer (pos n))) = Some n
natural_of (atom (integer (negsuc n))) = None
natural_of (atom (string s)) = None
natural_of (atom (keyword k)) = None
natural_of (vector ds) = None
natural_of (dictionary es) = None

-- the number that is not negative whose token comes first, if one does
abbrev pub natural_first : List Token → Option ℕ
natural_first [] = None
natural_first (open_vector ∷ ts) = None
natural_first (close_vector ∷ ts) = None
natural_first (open_map ∷ ts) = None
natural_first (close_map ∷ ts) = None
natural_first (leaf d ∷ ts) = natural_of d

-- the name of the keyword whose token comes first, if one does
abbrev pub keyword_first : List Token → Option (List ℕ)
keyword_first [] = None
keyword_first (open_vector ∷ ts) = None
keyword_first (close_vector ∷ ts) = None
keyword_first (open_map ∷ ts) = None
keyword_first (close_map ∷ ts) = None
keyword_first (leaf d ∷ ts) = key_in d
