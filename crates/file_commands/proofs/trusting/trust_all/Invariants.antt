-- The statuses of the shards before this one were read and taken.
use Rattle.std.proofs.Common.{◌≡◌, ℕ, List, Option, length}
use Rattle.file_commands.specs.Trusted.{AreTrusted, AreStatusesRead}
use Rattle.file_commands.proofs.trusting.trust_all.Given as goal

abbrev pub invariant-loop-shard : goal.invariant-loop-shard
invariant-loop-shard g l =
    (all : List (Option (List ℕ))) × (length all ≡ l.shard) × AreStatusesRead (g.F.StatusFiles.holds l.files) all
    × AreTrusted l.trusted all
