use Rattle.std.proofs.Common.{◌≡◌, length}
use Rattle.edn_reader.specs.Reading.{skip}
use Rattle.edn_reader.proofs.lexer.skip.Given as goal

abbrev pub invariant-bytes : goal.invariant-bytes
invariant-bytes l = skip l.rest ≡ skip l.text

abbrev pub decreases-bytes : goal.decreases-bytes
decreases-bytes l = length l.rest
