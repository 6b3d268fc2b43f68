use Rattle.history.proofs.Reading.{nothing_read}
use Rattle.history.proofs.seams.Seams.new.Goals as goal

pub returns : goal.returns
returns c = nothing_read c.new.result c.new-2.result.items c.new.ensures c.new-2.ensures.items
