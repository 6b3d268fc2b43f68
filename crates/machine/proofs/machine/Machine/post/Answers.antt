-- `post`: the step is taken, or it is impossible and nothing has changed. The client's stage alone decides: it is
-- Drawn, and becomes Posted, or the step is not possible.
use Rattle.std.proofs.Common.{refl}
use Rattle.machine.proofs.Rows.{post_taken, post_not}
use Rattle.machine.proofs.machine.Machine.post.Goals as goal

pub returns-in_default : goal.returns-in_default
returns-in_default g c = (
  refl,
  post_not _ _ _ c.self.inside c.self.invariant c.self.view_is c.args.client c.requires c.index.ensures
      c.in_default.not-Drawn,
)

pub invariant_of-self : goal.invariant_of-self
invariant_of-self g c =
    (post_taken _ _ _ c.self.inside c.self.invariant c.self.view_is c.args.client c.requires c.index.ensures
    c.in-Drawn.is).0

pub returns : goal.returns
returns g c = (
  (post_taken _ _ _ c.self.inside c.self.invariant c.self.view_is c.args.client c.requires c.index.ensures
      c.in-Drawn.is).1,
  tt,
)
