use Rattle.std.proofs.Common.{ap}
use Rattle.publication.specs.Handles.{new_client_known}
use Rattle.publication.proofs.Growing.{numbered_fewer}
use Rattle.desk_example.proofs.desk_for_two.Goals as goal

pub returns : goal.returns
returns c =
    let new = new_client_known c.in_ok-desk.desk.id in
    let one = numbered_fewer new c.pop.new.self.items c.in_ok-desk.clients.items c.in-Some.one c.in-Some.ensures.items
    c.in_ok-desk.ensures.clients.1 in
    let zero = numbered_fewer new c.pop-2.new.self.items c.pop.new.self.items c.in-Some-pop.zero
    c.in-Some-pop.ensures.items one.2 in
    (ap (λ k. k.desk) zero.0, ap (λ k. k.desk) one.0)
