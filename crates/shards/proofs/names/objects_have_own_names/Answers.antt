use Rattle.shards.proofs.NamesInShards.{object_there, own_name}
use Rattle.shards.proofs.names.objects_have_own_names.Goals as goal

pub returns : goal.returns
returns c = record { own = own_name; named = object_there }
