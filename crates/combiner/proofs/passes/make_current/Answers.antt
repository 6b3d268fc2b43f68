use Rattle.std.proofs.Common.{refl}
use Rattle.combiner.proofs.passes.make_current.Goals as goal

pub returns-in_default : goal.returns-in_default
returns-in_default g c = (c.args.pass.now.state.list, c.args.pass.now.state.ages, refl)
