use Rattle.shards.proofs.WorkedShards.{two_at_once-divided, two_at_once-shards, two_at_once-refused}
use Rattle.shards.proofs.WorkedShards.{two_at_once-not_linearizable}
use Rattle.shards.proofs.proper_shards_do_not_make_a_proper_whole.Goals as goal

pub returns-clause-divided : goal.returns-clause-divided
returns-clause-divided c = two_at_once-divided

pub returns-clause-shards_proper : goal.returns-clause-shards_proper
returns-clause-shards_proper c s = (two_at_once-shards s).0

pub returns-clause-shards_linearizable : goal.returns-clause-shards_linearizable
returns-clause-shards_linearizable c s = (two_at_once-shards s).1

pub returns-clause-whole_not_proper : goal.returns-clause-whole_not_proper
returns-clause-whole_not_proper c = two_at_once-refused

pub returns-clause-whole_not_linearizable : goal.returns-clause-whole_not_linearizable
returns-clause-whole_not_linearizable c = two_at_once-not_linearizable
