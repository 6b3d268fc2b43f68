use Rattle.std.proofs.Common.{length, ◌<◌}
use Rattle.edn_reader.specs.TokenBuffers.{kept_by, open_levels}
use Rattle.edn_reader.proofs.BufferTurns.{Midway}
use Rattle.edn_reader.proofs.token_buffer.TokenBuffer.try_read.Given as goal

abbrev pub invariant-tokens : goal.invariant-tokens
invariant-tokens l = Midway l.cuts l.text l.self.remains.now (open_levels l.self) (kept_by l.self)
    × (length l.self.remains.now < length l.text)

abbrev pub decreases-tokens : goal.decreases-tokens
decreases-tokens l = length l.self.remains.now
