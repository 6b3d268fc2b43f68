-- What a token buffer holds. No public clause speaks of it but by `ReadsNext`.
use Rattle.std.specs.Prelude.{ℕ, ◌-◌, ◌≤◌, List, length}
use Rattle.edn_reader.specs.Token.{Token}
use Rattle.edn_reader.specs.Shapes.{Shapes}
use Rattle.edn_reader.specs.Sound.{IsSoundAt}
use Rattle.edn_reader.specs.Truncation.{Keep}
use Rattle.edn_reader.specs.Kepts.{kept_in}
use Rattle.edn_reader.specs.Levels.{levels_shapes}
use Rattle.edn_reader.specs.declared.token_buffer.TokenBuffer.{TokenBuffer}

-- what is kept of the element that was read last
abbrev pub kept_by : TokenBuffer → Keep
kept_by t = kept_in t.truncated

abbrev pub kept_tokens : TokenBuffer → List Token
kept_tokens t = (kept_by t).tokens

-- what is open
abbrev pub open_levels : TokenBuffer → Shapes
open_levels t = levels_shapes t.levels

-- nothing is wrong up to the token at which the rest of the text has this length
abbrev pub IsSoundAfter : ℕ → List ℕ → Type 0
IsSoundAfter left text = (left ≤ length text) × IsSoundAt (length text - left) text
