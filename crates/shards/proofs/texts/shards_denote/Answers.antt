use Rattle.shards.proofs.DecidingTexts.{shard_is}
use Rattle.shards.proofs.texts.shards_denote.Goals as goal

pub returns : goal.returns
returns c = λ shard_of name whole shards es h d s. shard_is h es d s
