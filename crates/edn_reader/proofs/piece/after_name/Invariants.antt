use Rattle.std.proofs.Common.{◌≡◌, length}
use Rattle.edn_reader.specs.Reading.{after_names}
use Rattle.edn_reader.proofs.piece.after_name.Given as goal

abbrev pub invariant-bytes : goal.invariant-bytes
invariant-bytes l = after_names l.rest ≡ after_names l.text

abbrev pub decreases-bytes : goal.decreases-bytes
decreases-bytes l = length l.rest
