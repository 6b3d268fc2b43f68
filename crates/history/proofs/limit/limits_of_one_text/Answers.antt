use Rattle.history.proofs.MapLimit.{only_limits}
use Rattle.history.proofs.limit.limits_of_one_text.Goals as goal

pub returns : goal.returns
returns c = only_limits
