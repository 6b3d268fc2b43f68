use Rattle.cuts.proofs.Prefixes.{prefix_valid}
use Rattle.cuts.proofs.laws.prefix_is_valid.Goals as goal

pub returns : goal.returns
returns c = prefix_valid
