use Rattle.shards.proofs.DecidingTexts.{linearizable_by_shards, shards_of_linearizable}
use Rattle.shards.proofs.texts.texts_of_shards_decide.Goals as goal

pub returns : goal.returns
returns c = λ shard_of name whole shards h. (λ l. shards_of_linearizable h l, λ each. linearizable_by_shards h each)
