use Rattle.std.proofs.Common.{◌≡◌}
use Rattle.edn_reader.specs.Levels.{levels_shapes}
use Rattle.edn_reader.proofs.levels.Levels.list_vectors.Given as goal

abbrev pub invariant-vectors : goal.invariant-vectors
invariant-vectors l = levels_shapes l.self ≡ levels_shapes l.initial.self

abbrev pub decreases-vectors : goal.decreases-vectors
decreases-vectors l = l.self.vectors
