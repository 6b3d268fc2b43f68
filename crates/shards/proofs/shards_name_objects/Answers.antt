use Rattle.shards.proofs.Naming.{shards_name}
use Rattle.shards.proofs.shards_name_objects.Goals as goal

pub returns : goal.returns
returns c = shards_name
