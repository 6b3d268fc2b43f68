use Rattle.shards.proofs.LargeObjects.{none_counted}
use Rattle.shards.proofs.tally.Tally.new.Goals as goal

pub returns : goal.returns
returns c = none_counted _ c.new.ensures c.new-2.ensures.items
