use Rattle.shards.proofs.WorkedShards.{one_each-proper, one_each-divided, one_each-shards, one_each-linearizable}
use Rattle.shards.proofs.shards_may_be_renumbered.Goals as goal

pub returns : goal.returns
returns c = record {
  whole_proper = one_each-proper;
  divided = one_each-divided;
  shards_linearizable = one_each-shards;
  whole_linearizable = one_each-linearizable;
}
