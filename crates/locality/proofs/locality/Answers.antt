use Rattle.locality.proofs.OneKind.{locality_of_kinds}
use Rattle.locality.proofs.locality.Goals as goal

pub returns : goal.returns
returns c = locality_of_kinds
