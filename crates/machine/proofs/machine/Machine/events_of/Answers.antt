use Rattle.std.proofs.Common.{◌≡◌, [], get_or, length, subst, arith}
use Rattle.desk_model.specs.Images.{event_in}
use Rattle.machine.specs.Machines.{State}
use Rattle.machine.proofs.Looks.{length_seen}
use Rattle.machine.proofs.Rows.{journal_there}
use Rattle.machine.proofs.machine.Machine.events_of.Goals as goal

pub returns : goal.returns
returns g c =
    let low = journal_there _ _ _ c.self.inside c.self.invariant c.self.view_is c.args.client c.requires in
    subst (λ (s : State). c.len.result ≡ length (get_or s.journals c.args.client [])) c.self.view_is
    (let seen = length_seen
    (event_in g.S.SeqObject.op_in g.S.SeqObject.reply_in) c.self.inside.journals.items c.args.client
    c.index.result.now low c.index.ensures in
    let long = c.len.ensures in omega arith)
