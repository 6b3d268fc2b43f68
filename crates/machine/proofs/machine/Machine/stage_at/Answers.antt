use Rattle.machine.proofs.Rows.{stage_is}
use Rattle.machine.proofs.machine.Machine.stage_at.Goals as goal

pub returns : goal.returns
returns g c = stage_is _ _ _ c.self.inside c.self.invariant c.self.view_is c.args.client c.requires c.index.ensures
