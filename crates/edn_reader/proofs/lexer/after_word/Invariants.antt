use Rattle.std.proofs.Common.{◌≡◌, length}
use Rattle.edn_reader.specs.Reading.{after_word}
use Rattle.edn_reader.proofs.lexer.after_word.Given as goal

abbrev pub invariant-bytes : goal.invariant-bytes
invariant-bytes l = after_word l.rest ≡ after_word l.text

abbrev pub decreases-bytes : goal.decreases-bytes
decreases-bytes l = length l.rest
