use Rattle.shards.proofs.DecidingTexts.{linearizable_where_judged, refuted_by_shard}
use Rattle.shards.proofs.texts.judged_shards_decide.Goals as goal

pub returns-clause-yes : goal.returns-clause-yes
returns-clause-yes c = linearizable_where_judged

pub returns-clause-no : goal.returns-clause-no
returns-clause-no c = refuted_by_shard
