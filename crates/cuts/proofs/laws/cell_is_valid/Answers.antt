use Rattle.cuts.specs.declared.kinds.CellId.TheVariants.{OfRegister}
use Rattle.cuts.proofs.Places.{part_valid}
use Rattle.cuts.proofs.laws.cell_is_valid.Goals as goal

pub returns : goal.returns
returns c = part_valid OfRegister
