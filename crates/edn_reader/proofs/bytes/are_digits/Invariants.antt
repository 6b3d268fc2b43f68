use Rattle.std.proofs.Common.{◌≡◌, length}
use Rattle.std.specs.List.{list_all}
use Rattle.edn_reader.specs.Bytes.{is_digit}
use Rattle.edn_reader.proofs.bytes.are_digits.Given as goal

abbrev pub invariant-bytes : goal.invariant-bytes
invariant-bytes l = list_all is_digit l.rest ≡ list_all is_digit l.bytes

abbrev pub decreases-bytes : goal.decreases-bytes
decreases-bytes l = length l.rest
