use Rattle.machine.proofs.Rows.{can_do_there, content_there}
use Rattle.machine.proofs.machine.Machine.is_possible.Goals as goal

pub returns-clause-possible : goal.returns-clause-possible
returns-clause-possible g c =
    let told = can_do_there _ _ _ c.self.inside c.self.invariant c.self.view_is c.args.object
    (g.S.SeqObject.op_in c.args.request.now.op) c.requires.object c.index.ensures in
    (λ can. told.0 (c.possible.ensures.0 can), λ can. c.possible.ensures.1 (told.1 can))

pub returns-clause-content : goal.returns-clause-content
returns-clause-content g c =
    content_there _ _ _ c.self.inside c.self.invariant c.self.view_is c.args.object c.requires.object c.index.ensures
