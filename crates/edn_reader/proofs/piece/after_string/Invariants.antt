use Rattle.std.proofs.Common.{◌≡◌, length}
use Rattle.edn_reader.specs.Reading.{string_end}
use Rattle.edn_reader.proofs.piece.after_string.Given as goal

abbrev pub invariant-bytes : goal.invariant-bytes
invariant-bytes l = string_end l.rest ≡ string_end l.text

abbrev pub decreases-bytes : goal.decreases-bytes
decreases-bytes l = length l.rest
