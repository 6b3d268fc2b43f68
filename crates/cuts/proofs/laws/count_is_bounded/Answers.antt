use Rattle.cuts.proofs.Bounds.{count_bounded}
use Rattle.cuts.proofs.laws.count_is_bounded.Goals as goal

pub returns : goal.returns
returns c = count_bounded
