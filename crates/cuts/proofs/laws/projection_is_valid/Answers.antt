use Rattle.cuts.proofs.Closed.{projection_valid}
use Rattle.cuts.proofs.laws.projection_is_valid.Goals as goal

pub returns : goal.returns
returns c = projection_valid
