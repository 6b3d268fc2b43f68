use Rattle.std.proofs.Common.{◌≡◌, ◌<◌, ◌^◌, length}
use Rattle.edn_reader.specs.Spells.{value_after}
use Rattle.edn_reader.specs.Reading.{digits, after_digits}
use Rattle.edn_reader.proofs.piece.number_at.Given as goal

abbrev pub invariant-digits : goal.invariant-digits
invariant-digits l = (value_after l.value (digits l.rest) ≡ value_after 0 (digits l.text))
    × (after_digits l.rest ≡ after_digits l.text) × (l.value < 2 ^ 63)

abbrev pub decreases-digits : goal.decreases-digits
decreases-digits l = length l.rest
