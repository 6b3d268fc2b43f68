use Rattle.cuts.proofs.Named.{one_part_named}
use Rattle.cuts.proofs.laws.one_part.Goals as goal

pub returns : goal.returns
returns c = one_part_named
