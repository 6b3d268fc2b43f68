use Rattle.std.proofs.Common.{refl}
use Rattle.machine.proofs.Rows.{end_done}
use Rattle.machine.proofs.machine.Machine.end.Goals as goal

pub invariant_of-self : goal.invariant_of-self
invariant_of-self g c =
    (end_done _ _ _ c.self.inside c.self.invariant c.self.view_is c.args.client c.requires
    (c.if-not-may_end.ensures.0 refl) (c.if-not-holds_nothing.ensures.0 refl)).0

pub returns : goal.returns
returns g c = (
  (end_done _ _ _ c.self.inside c.self.invariant c.self.view_is c.args.client c.requires
      (c.if-not-may_end.ensures.0 refl) (c.if-not-holds_nothing.ensures.0 refl)).1,
  tt,
)
