use Rattle.cuts.proofs.Absences.{without_valid}
use Rattle.cuts.proofs.laws.without_is_valid.Goals as goal

pub returns : goal.returns
returns c = without_valid
