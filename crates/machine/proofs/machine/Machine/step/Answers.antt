-- `step`: a refused step is one that is not possible now, and the world stays that of a run. Each kind of step has
-- the contract of its own function, of which `not_now` and `tried_run` prove the two clauses.
use Rattle.std.proofs.Common.{ap}
use Rattle.machine.specs.Steps.{step_in}
use Rattle.machine.proofs.Trying.{not_now, tried_run}
use Rattle.machine.proofs.machine.Machine.step.Goals as goal

pub returns-in-Post-clause-not_now : goal.returns-in-Post-clause-not_now
returns-in-Post-clause-not_now g c =
    not_now g.S.SeqObject.reply_in _ _ _ _ _ _ (ap (step_in g.S.SeqObject.op_in) c.in-Post.is) c.post.ensures

pub returns-in-Win-clause-not_now : goal.returns-in-Win-clause-not_now
returns-in-Win-clause-not_now g c =
    not_now g.S.SeqObject.reply_in _ _ _ _ _ _ (ap (step_in g.S.SeqObject.op_in) c.in-Win.is) c.win.ensures

pub returns-in-Pick-clause-not_now : goal.returns-in-Pick-clause-not_now
returns-in-Pick-clause-not_now g c =
    not_now g.S.SeqObject.reply_in _ _ _ _ _ _ (ap (step_in g.S.SeqObject.op_in) c.in-Pick.is) c.pick.ensures

pub returns-in-Answer-clause-not_now : goal.returns-in-Answer-clause-not_now
returns-in-Answer-clause-not_now g c =
    not_now g.S.SeqObject.reply_in _ _ _ _ _ _ (ap (step_in g.S.SeqObject.op_in) c.in-Answer.is) c.answer.ensures

pub returns-in-PutBack-clause-not_now : goal.returns-in-PutBack-clause-not_now
returns-in-PutBack-clause-not_now g c =
    not_now g.S.SeqObject.reply_in _ _ _ _ _ _ (ap (step_in g.S.SeqObject.op_in) c.in-PutBack.is) c.put_back.ensures

pub returns-in-Take-clause-not_now : goal.returns-in-Take-clause-not_now
returns-in-Take-clause-not_now g c =
    not_now g.S.SeqObject.reply_in _ _ _ _ _ _ (ap (step_in g.S.SeqObject.op_in) c.in-Take.is) c.take.ensures

pub returns-in-Release-clause-not_now : goal.returns-in-Release-clause-not_now
returns-in-Release-clause-not_now g c =
    not_now g.S.SeqObject.reply_in _ _ _ _ _ _ (ap (step_in g.S.SeqObject.op_in) c.in-Release.is) c.release.ensures

pub returns-in-End-clause-not_now : goal.returns-in-End-clause-not_now
returns-in-End-clause-not_now g c =
    not_now g.S.SeqObject.reply_in _ _ _ _ _ _ (ap (step_in g.S.SeqObject.op_in) c.in-End.is) c.end.ensures

pub returns-in-Draw-clause-run : goal.returns-in-Draw-clause-run
returns-in-Draw-clause-run g c = tried_run g.S.SeqObject.reply_in _ _ _ _ _ c.is_going.ensures.run c.draw.ensures

pub returns-in-Post-clause-run : goal.returns-in-Post-clause-run
returns-in-Post-clause-run g c = tried_run g.S.SeqObject.reply_in _ _ _ _ _ c.is_going.ensures.run c.post.ensures

pub returns-in-Win-clause-run : goal.returns-in-Win-clause-run
returns-in-Win-clause-run g c = tried_run g.S.SeqObject.reply_in _ _ _ _ _ c.is_going.ensures.run c.win.ensures

pub returns-in-Pick-clause-run : goal.returns-in-Pick-clause-run
returns-in-Pick-clause-run g c = tried_run g.S.SeqObject.reply_in _ _ _ _ _ c.is_going.ensures.run c.pick.ensures

pub returns-in-Answer-clause-run : goal.returns-in-Answer-clause-run
returns-in-Answer-clause-run g c = tried_run g.S.SeqObject.reply_in _ _ _ _ _ c.is_going.ensures.run c.answer.ensures

pub returns-in-PutBack-clause-run : goal.returns-in-PutBack-clause-run
returns-in-PutBack-clause-run g c = tried_run g.S.SeqObject.reply_in _ _ _ _ _ c.is_going.ensures.run c.put_back.ensures

pub returns-in-Take-clause-run : goal.returns-in-Take-clause-run
returns-in-Take-clause-run g c = tried_run g.S.SeqObject.reply_in _ _ _ _ _ c.is_going.ensures.run c.take.ensures

pub returns-in-Release-clause-run : goal.returns-in-Release-clause-run
returns-in-Release-clause-run g c = tried_run g.S.SeqObject.reply_in _ _ _ _ _ c.is_going.ensures.run c.release.ensures

pub returns-in-End-clause-run : goal.returns-in-End-clause-run
returns-in-End-clause-run g c = tried_run g.S.SeqObject.reply_in _ _ _ _ _ c.is_going.ensures.run c.end.ensures
