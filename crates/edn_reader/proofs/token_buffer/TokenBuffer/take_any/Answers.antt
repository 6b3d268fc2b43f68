use Rattle.edn_reader.specs.TokenBuffers.{open_levels}
use Rattle.edn_reader.proofs.BufferTurns.{no_string_key}
use Rattle.edn_reader.proofs.token_buffer.TokenBuffer.take_any.Goals as goal

pub returns-then-here-eq34-clause-taken : goal.returns-then-here-eq34-clause-taken
returns-then-here-eq34-clause-taken c = (
  λ _. no_string_key c.args.here.now (open_levels c.args.self.now) c.if-takes_key.ensures c.if-here-eq34.true,
  λ e. absurd cc,
)
