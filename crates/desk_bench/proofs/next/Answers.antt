use Rattle.std.proofs.Common.{ap}
use Rattle.publication.specs.Handles.{new_client_known}
use Rattle.publication.proofs.Growing.{numbered_fewer}
use Rattle.desk_bench.proofs.next.Goals as goal

pub returns-clause-client : goal.returns-clause-client
returns-clause-client c =
    let e = numbered_fewer (new_client_known c.args.desk.now.id) c.pop.new.self.items c.args.clients.now.items
    c.in-Some.client c.in-Some.ensures.items c.requires.1 in
    ap (λ k. k.desk) e.0

pub returns-clause-others : goal.returns-clause-others
returns-clause-others c =
    let e = numbered_fewer (new_client_known c.args.desk.now.id) c.pop.new.self.items c.args.clients.now.items
    c.in-Some.client c.in-Some.ensures.items c.requires.1 in (e.1, e.2)
