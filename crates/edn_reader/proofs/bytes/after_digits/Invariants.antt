use Rattle.std.proofs.Common.{length}
use Rattle.edn_reader.proofs.bytes.after_digits.Given as goal

abbrev pub decreases-bytes : goal.decreases-bytes
decreases-bytes l = length l.rest
