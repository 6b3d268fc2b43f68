use Rattle.shards.proofs.WholeAndShards.{proper_shards}
use Rattle.shards.proofs.shards_are_proper.Goals as goal

pub returns : goal.returns
returns c = proper_shards
