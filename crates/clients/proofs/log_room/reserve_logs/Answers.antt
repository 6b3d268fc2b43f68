use Rattle.std.proofs.Common.{length}
use Rattle.clients.proofs.NewClients.{client_taken, client_added, still_none}
use Rattle.clients.proofs.log_room.reserve_logs.Goals as goal

pub make_all_room-requires : goal.make_all_room-requires
make_all_room-requires c = record {
  desk = (client_taken c.args.desk.now.id c.pop.new.self.items c.args.clients.items
      c.in-Some.last c.in-Some.ensures.items c.requires).0.desk;
}

pub returns-clause-new : goal.returns-clause-new
returns-clause-new c =
    let d = c.args.desk.now.id in
    let others = c.pop.new.self.items in
    let one = client_taken d others c.args.clients.items c.in-Some.last c.in-Some.ensures.items c.requires in
    client_added d others c.push_reserved.new.self.items c.in_ok-last.last c.push_reserved.ensures.items one.2
    (still_none d (length others) c.in-Some.last c.in_ok-last.last one.0 c.in_ok-last.ensures.desk
    c.in_ok-last.ensures.calls)
