use Rattle.combiner.proofs.Served.{goes_room, keeps_learnt, keeps_missed}
use Rattle.clients.proofs.log_room.make_room.Goals as goal

pub returns-in-Held-clause-calls : goal.returns-in-Held-clause-calls
returns-in-Held-clause-calls c =
    keeps_missed c.args.object c.args.client.knows c.in-Held.client.knows c.in-Held.ensures.held

pub returns-in_ok-reserved-in-Won-clause-calls : goal.returns-in_ok-reserved-in-Won-clause-calls
returns-in_ok-reserved-in-Won-clause-calls c = let o = c.in-Won.ensures.won in
    keeps_learnt c.args.client.knows c.args.object c.in-Won.pass c.reserve-reserved.new.self
    c.release-client.result.knows o.knows o.object o.begins
    (goes_room _ _ _ c.reserve-reserved.ensures.same) c.release-client.ensures.released
