use Rattle.machine.proofs.Journals.{grown, ungrown, if_err}
use Rattle.machine.proofs.row_steps.note.Goals as goal

pub returns-in_err-push-clause-err : goal.returns-in_err-push-clause-err
returns-in_err-push-clause-err g c =
    if_err c.from_residual.result _ c.from_residual.ensures.1
    (ungrown c.args.journals.now.items c.args.client c.index_mut.result.now c.push.new.self c.requires
    c.index_mut.ensures.value c.in_err-push.ensures.items)

pub returns-clause-ok : goal.returns-clause-ok
returns-clause-ok g c =
    grown c.args.journals.now.items c.args.client c.index_mut.result.now c.push.new.self c.args.event c.requires
    c.index_mut.ensures.value c.in_ok-push.ensures.items
