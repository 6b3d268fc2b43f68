-- The shards before this one were read and taken.
use Rattle.std.proofs.Common.{◌≡◌, List, length}
use Rattle.history_commands.specs.Merged.{AreMerged, Shard}
use Rattle.file_commands.specs.Sharded.{AreShardsRead}
use Rattle.file_commands.proofs.folders.merge_all.Given as goal

abbrev pub invariant-loop-shard : goal.invariant-loop-shard
invariant-loop-shard g l =
    (all : List Shard) × (length all ≡ l.shard) × AreShardsRead (g.F.ShardFiles.holds l.files) l.counts l.steps all
    × AreMerged l.merging all
