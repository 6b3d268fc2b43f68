use Rattle.std.proofs.Common.{ℕ, List}
use Rattle.edn_reader.specs.Datum.{Datum}
use Rattle.history.specs.MapTexts.{AreMapTexts}
use Rattle.shards.specs.Dividing.{Files}
use Rattle.shards.specs.ShardTexts.{SpelledMap}
use Rattle.shards.specs.Taking.{AreMapsTaken}
use Rattle.shards.proofs.TakingMaps.{AreTakenUpTo}
use Rattle.shards.proofs.divider.Divider.take.Given as goal

abbrev pub invariant-loop-map : goal.invariant-loop-map
invariant-loop-map l =
    (count : ℕ) (maps : List SpelledMap) (written : Files) (ds : List Datum) → AreMapTexts l.map-items ds
    → AreMapsTaken count l.fn.self maps written → AreTakenUpTo l.map-index ds count l.self maps written
