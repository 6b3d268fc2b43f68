use Rattle.std.proofs.Common.{◌≡◌, [], ◌∷◌, ◌++◌, length}
use Rattle.edn_reader.specs.Datum.{Entries}
use Rattle.edn_reader.specs.Token.{close_map, entries_tokens}
use Rattle.edn_reader.specs.Pieces.{token_buffer_tokens}
use Rattle.edn.specs.Operations.{Walk}
use Rattle.edn.proofs.fields.operation.values_in.Given as goal

abbrev pub invariant-pairs : goal.invariant-pairs
invariant-pairs l = (es : Entries) → token_buffer_tokens l.inside ≡ entries_tokens es ++ close_map ∷ []
    → Walk es (token_buffer_tokens l.rest) l.values

abbrev pub decreases-pairs : goal.decreases-pairs
decreases-pairs l = length l.rest
