use Rattle.std.proofs.Common.{◌≡◌, ◌<◌, ℕ, List, [], false}
use Rattle.shards.specs.Dividing.{Files}
use Rattle.shards.specs.ShardTexts.{SpelledMap}
use Rattle.shards.specs.Taking.{AreMapsTaken, AreTakenAfter, waiting_maps, waiting_places}
use Rattle.shards.proofs.divider.Divider.flush.Given as goal

abbrev pub invariant-loop-shard : goal.invariant-loop-shard
invariant-loop-shard g l = record {
  taken : (count : ℕ) (maps : List SpelledMap) (written : Files) → AreMapsTaken count l.fn.self maps written
      → AreTakenAfter count l.self maps written (g.D.Folder.files l.fn.folder) (g.D.Folder.files l.folder);
  usable : g.D.Folder.broken l.folder ≡ false;
  shards : l.self.shards ≡ l.fn.self.shards;
  maps : l.least ≡ 0 → (s : ℕ) → s < l.shard → waiting_maps l.self.waiting.items s ≡ [];
  places : l.least ≡ 0 → (s : ℕ) → s < l.shard → waiting_places l.self.waiting.items s ≡ [];
}
