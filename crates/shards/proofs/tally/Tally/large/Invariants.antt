use Rattle.std.proofs.Common.{◌≡◌, map, take}
use Rattle.shards.proofs.LargeObjects.{large_with}
use Rattle.shards.proofs.tally.Tally.large.Given as goal

abbrev pub invariant-loop-object : goal.invariant-loop-object
invariant-loop-object l = l.large.items ≡ map (large_with l.self.counts) (take l.object-index l.object-items)
