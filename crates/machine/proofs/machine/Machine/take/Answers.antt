-- `take`: the step is taken, or it is impossible and nothing has changed. The client's stage alone decides: it is
-- Answered, and becomes Taken, or the step is not possible.
use Rattle.std.proofs.Common.{refl}
use Rattle.machine.proofs.Rows.{take_taken, take_not}
use Rattle.machine.proofs.machine.Machine.take.Goals as goal

pub returns-in_default : goal.returns-in_default
returns-in_default g c = (
  refl,
  take_not _ _ _ c.self.inside c.self.invariant c.self.view_is c.args.client c.requires c.index.ensures
      c.in_default.not-Answered,
)

pub invariant_of-self : goal.invariant_of-self
invariant_of-self g c =
    (take_taken _ _ _ c.self.inside c.self.invariant c.self.view_is c.args.client c.requires c.index.ensures
    c.in-Answered.is).0

pub returns : goal.returns
returns g c = (
  (take_taken _ _ _ c.self.inside c.self.invariant c.self.view_is c.args.client c.requires c.index.ensures
      c.in-Answered.is).1,
  tt,
)
