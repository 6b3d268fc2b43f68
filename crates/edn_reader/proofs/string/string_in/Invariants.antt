use Rattle.std.proofs.Common.{◌≡◌, ◌++◌, length}
use Rattle.edn_reader.specs.Pieces.{unquoted}
use Rattle.edn_reader.proofs.string.string_in.Given as goal

abbrev pub invariant-bytes : goal.invariant-bytes
invariant-bytes l = l.bytes.items ++ unquoted l.rest ≡ unquoted l.raw

abbrev pub decreases-bytes : goal.decreases-bytes
decreases-bytes l = length l.rest
