use Rattle.std.proofs.Common.{take}
use Rattle.edn_reader.specs.NameSets.{HasNames}
use Rattle.edn_reader.specs.Shapes.{name_views}
use Rattle.edn_reader.proofs.levels.set_of.Given as goal

abbrev pub invariant-loop-name : goal.invariant-loop-name
invariant-loop-name l = HasNames l.set (name_views (take l.name-index l.names))
