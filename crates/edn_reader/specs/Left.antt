-- What a reader of elements has.
use Rattle.std.specs.Prelude.{ℕ, ◌-◌, Bool, List, length}
use Rattle.edn_reader.specs.Token.{Token}
use Rattle.edn_reader.specs.TokenBuffers.{kept_tokens}
use Rattle.edn_reader.specs.declared.elements.Elements.{Elements}

-- the rest of the text
abbrev pub text_left : Elements → List ℕ
text_left e = e.rest.now

-- the byte of the text at which the rest begins
abbrev pub start_of : Elements → ℕ
start_of e = e.whole - length e.rest.now

-- whether only the beginning of each value is kept of an element
abbrev pub is_truncating : Elements → Bool
is_truncating e = e.cuts

-- the tokens that were kept of the element that was read last
abbrev pub tokens_in : Elements → List Token
tokens_in e = kept_tokens e.token_buffer
