use Rattle.std.proofs.Common.{◌≡◌, length, subst, arith}
use Rattle.machine.specs.Machines.{State}
use Rattle.machine.proofs.Lists.{none_past}
use Rattle.machine.proofs.machine.Machine.held_by.Goals as goal

pub returns-clause-none : goal.returns-clause-none
returns-clause-none g c =
    let long : length c.args.self.now.holders ≡ length c.args.self.now.kinds =
    subst (λ (s : State). length s.holders ≡ length s.kinds) c.self.view_is c.self.invariant.holders in
    none_past c.args.self.now.holders (length c.args.self.now.kinds) c.args.client long
    (λ x low.
    let t = c.loop-object-test.false in
    let e = c.objects-object-end.ensures in
    c.loop-object.invariant x (omega arith))
