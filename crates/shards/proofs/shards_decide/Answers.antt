use Rattle.shards.proofs.WholeAndShards.{decided_by_shards}
use Rattle.shards.proofs.shards_decide.Goals as goal

pub returns : goal.returns
returns c = decided_by_shards
