use Rattle.std.proofs.Common.{◌≡◌, length}
use Rattle.edn_reader.specs.Spells.{value_after}
use Rattle.edn_reader.proofs.word.value_within.Given as goal

abbrev pub invariant-digits : goal.invariant-digits
invariant-digits l = value_after l.value l.rest ≡ value_after 0 l.digits

abbrev pub decreases-digits : goal.decreases-digits
decreases-digits l = length l.rest
