use Rattle.std.proofs.Common.{◌≡◌, ◌+◌, ◌≤◌, length}
use Rattle.edn_reader.specs.Pieces.{token_buffer_tokens}
use Rattle.edn.specs.Values.{after_open}
use Rattle.edn.proofs.fields.values.after_open.Given as goal

abbrev pub invariant-pieces : goal.invariant-pieces
invariant-pieces l = (after_open l.open (token_buffer_tokens l.rest) ≡ after_open 1 (token_buffer_tokens l.pieces))
    × (l.open + length l.rest ≤ 1 + length l.pieces) × (length l.rest ≤ length l.pieces)

abbrev pub decreases-pieces : goal.decreases-pieces
decreases-pieces l = length l.rest
