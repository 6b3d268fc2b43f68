use Rattle.cuts.specs.declared.kinds.CellId.TheVariants.{OfKey}
use Rattle.cuts.proofs.Places.{part_valid}
use Rattle.cuts.proofs.laws.entry_is_valid.Goals as goal

pub returns : goal.returns
returns c = λ kind calls key keeps. part_valid (OfKey key) kind calls keeps
