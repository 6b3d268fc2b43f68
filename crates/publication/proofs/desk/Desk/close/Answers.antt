use Rattle.publication.proofs.Leavings.{closed_same}
use Rattle.publication.proofs.desk.Desk.close.Goals as goal

pub returns-in-None-clause-closed : goal.returns-in-None-clause-closed
returns-in-None-clause-closed g c =
    closed_same g.S.SeqObject.op_in g.S.SeqObject.reply_in c.args.self c.args.last c.first_unretired.new.last
    c.gather.result c.in-None.ensures.all.1 c.gather.ensures
