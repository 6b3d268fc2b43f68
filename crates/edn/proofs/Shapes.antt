-- What a value is, by its first token.
use Rattle.std.proofs.Common.{◌≡◌, Option, Some, None, List, ◌++◌, refl, ap, ◌∙◌}
use Rattle.edn_reader.specs.Datum.{nil, Datum, atom}
use Rattle.edn_reader.specs.Token.{Token, tokens_of}
use Rattle.edn_reader.specs.Pieces.{token_buffer_tokens}
use Rattle.edn_reader.specs.declared.Piece.{Piece}
use Rattle.edn.specs.Fields.{natural_in, keyword_in}
use Rattle.edn.specs.Values.{IsValue, natural_first, keyword_first}

natural_by : (d : Datum) (ts : List Token) → natural_first (tokens_of d ++ ts) ≡ natural_in (Some d)
natural_by (atom nil) ts = refl
natural_by d ts = refl

keyword_by : (d : Datum) (ts : List Token) → keyword_first (tokens_of d ++ ts) ≡ keyword_in (Some d)
keyword_by (atom nil) ts = refl
keyword_by d ts = refl

-- the number whose token comes first is that of the value
pub natural_is : (ps : List Piece) (o : Option Datum) → IsValue ps o
    → natural_first (token_buffer_tokens ps) ≡ natural_in o
natural_is ps None h = ap (λ (x : List Piece). natural_first (token_buffer_tokens x)) h
natural_is ps (Some d) h = ap natural_first h.1 ∙ natural_by d h.0

pub keyword_is : (ps : List Piece) (o : Option Datum) → IsValue ps o
    → keyword_first (token_buffer_tokens ps) ≡ keyword_in o
keyword_is ps None h = ap (λ (x : List Piece). keyword_first (token_buffer_tokens x)) h
keyword_is ps (Some d) h = ap keyword_first h.1 ∙ keyword_by d h.0
