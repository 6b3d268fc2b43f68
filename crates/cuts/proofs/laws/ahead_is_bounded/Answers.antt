use Rattle.cuts.proofs.Ahead.{ahead_bounded}
use Rattle.cuts.proofs.laws.ahead_is_bounded.Goals as goal

pub returns : goal.returns
returns c = ahead_bounded
