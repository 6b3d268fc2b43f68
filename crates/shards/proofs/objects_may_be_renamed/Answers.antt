use Rattle.shards.proofs.RenamedObjects.{decided_by_renamed}
use Rattle.shards.proofs.objects_may_be_renamed.Goals as goal

pub returns : goal.returns
returns c = decided_by_renamed
