use Rattle.std.proofs.Common.{refl}
use Rattle.history.specs.Faults.{IsMapFault}
use Rattle.history.proofs.Reading.{nothing_faulty}
use Rattle.history.proofs.long_reader.LongReader.new.Goals as goal

pub returns : goal.returns
returns c = record { kept = c.new.ensures; faultless = nothing_faulty IsMapFault; count = refl }
