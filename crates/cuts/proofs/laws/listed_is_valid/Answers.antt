use Rattle.cuts.proofs.Listed.{listed_valid}
use Rattle.cuts.proofs.laws.listed_is_valid.Goals as goal

pub returns : goal.returns
returns c = listed_valid
