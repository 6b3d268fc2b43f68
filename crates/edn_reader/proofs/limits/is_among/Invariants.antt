use Rattle.std.proofs.Common.{◌≡◌, length}
use Rattle.edn_reader.specs.Reading.{has_key}
use Rattle.edn_reader.specs.View.{pair_views}
use Rattle.edn_reader.proofs.limits.is_among.Given as goal

abbrev pub invariant-pairs : goal.invariant-pairs
invariant-pairs l = has_key l.name (pair_views l.rest) ≡ has_key l.name (pair_views l.pairs)

abbrev pub decreases-pairs : goal.decreases-pairs
decreases-pairs l = length l.rest
