use Rattle.std.proofs.Common.{◌≡◌, length}
use Rattle.std.specs.List.{list_all}
use Rattle.edn_reader.specs.Bytes.{is_name_byte}
use Rattle.edn_reader.proofs.bytes.are_name_bytes.Given as goal

abbrev pub invariant-bytes : goal.invariant-bytes
invariant-bytes l = list_all is_name_byte l.rest ≡ list_all is_name_byte l.bytes

abbrev pub decreases-bytes : goal.decreases-bytes
decreases-bytes l = length l.rest
