-- The rest of the tokens of an element. No public clause speaks of it.
use Rattle.std.specs.Prelude.{List}
use Rattle.edn_reader.specs.Token.{Token}
use Rattle.edn_reader.specs.Pieces.{token_buffer_tokens}
use Rattle.edn_reader.specs.declared.forming.Tokens.{Tokens}

abbrev pub tokens_left : Tokens → List Token
tokens_left t = token_buffer_tokens t.rest.now
