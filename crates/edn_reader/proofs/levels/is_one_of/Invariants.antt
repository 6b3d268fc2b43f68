use Rattle.std.proofs.Common.{◌≡◌, length}
use Rattle.edn_reader.specs.Shapes.{has_name, name_views}
use Rattle.edn_reader.proofs.levels.is_one_of.Given as goal

abbrev pub invariant-names : goal.invariant-names
invariant-names l = has_name l.name (name_views l.rest) ≡ has_name l.name (name_views l.names)

abbrev pub decreases-names : goal.decreases-names
decreases-names l = length l.rest
