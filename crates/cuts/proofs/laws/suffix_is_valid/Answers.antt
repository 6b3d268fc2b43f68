use Rattle.cuts.proofs.Suffixes.{start_valid}
use Rattle.cuts.proofs.laws.suffix_is_valid.Goals as goal

pub returns : goal.returns
returns c = start_valid
