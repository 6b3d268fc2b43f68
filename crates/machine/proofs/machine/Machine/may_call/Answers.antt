use Rattle.std.proofs.Common.{◌≡◌, ◌*◌, [], None, get_or, length, ap, subst, arith}
use Rattle.std.proofs.lemmas.Bool.Decides.{nat_tests}
use Rattle.desk_model.specs.World.{idle, calls_made}
use Rattle.machine.specs.Machines.{State, world_of}
use Rattle.machine.proofs.Looks.{calls_half}
use Rattle.machine.proofs.machine.Machine.may_call.Goals as goal

pub returns-in-Idle : goal.returns-in-Idle
returns-in-Idle g c =
    let is : (world_of c.args.self.now).stage c.args.client ≡ idle = c.in-Idle.ensures in
    let half : length (get_or c.args.self.now.journals c.args.client [])
    ≡ 2 * calls_made ((world_of c.args.self.now).done c.args.client) None =
    subst (λ (s : State). (world_of s).stage c.args.client ≡ idle
    → length (get_or s.journals c.args.client []) ≡ 2 * calls_made ((world_of s).done c.args.client) None)
    c.self.view_is
    (λ e. calls_half c.self.invariant c.args.client e) is in
    let quota = ap (λ (s : State). s.quota) c.self.view_is in
    let events = c.events_of.ensures in
    (λ less. (is, grind (arith, nat_tests)), λ both. let few = both.1 in grind (arith, nat_tests))
