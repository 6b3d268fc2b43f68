-- What is kept of an element, as the code has it. No public clause speaks of it.
use Rattle.edn_reader.specs.Truncation.{Keep}
use Rattle.edn_reader.specs.Pieces.{token_buffer_tokens}
use Rattle.edn_reader.specs.declared.truncated.TruncatedTokens.{TruncatedTokens}

abbrev pub kept_in : TruncatedTokens → Keep
kept_in b =
    record {
      tokens = token_buffer_tokens b.pieces.items;
      cuts = b.cuts;
      in_map = b.in_map;
      below = b.below;
      room = b.room;
    }
