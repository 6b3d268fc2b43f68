use Rattle.std.proofs.Common.{ap}
use Rattle.model.specs.Objects.{table}
use Rattle.seq_objects.proofs.Tables.{from_sorted-empty}
use Rattle.seq_objects.proofs.map_object.MapObject.new.Goals as goal

pub returns : goal.returns
returns c = ap table (from_sorted-empty _ c.new.ensures.empty c.new.ensures.ordered)
