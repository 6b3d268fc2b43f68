use Rattle.std.proofs.Common.{refl}
use Rattle.combiner.proofs.passes.clean_at.Goals as goal

pub returns-in_default-clause-same : goal.returns-in_default-clause-same
returns-in_default-clause-same g c = (c.args.pass.now.state.list, c.args.pass.now.state.ages, refl)

pub returns-then-saturating_sub-le-IDLE-clause-same : goal.returns-then-saturating_sub-le-IDLE-clause-same
returns-then-saturating_sub-le-IDLE-clause-same g c = (c.args.pass.now.state.list, c.args.pass.now.state.ages, refl)
