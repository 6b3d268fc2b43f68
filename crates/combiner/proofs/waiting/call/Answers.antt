use Rattle.std.proofs.Common.{IfOk, subst}
use Rattle.desk_model.specs.Images.{answer_in}
use Rattle.combiner.specs.Waits.{IsWaitOver}
use Rattle.combiner.proofs.Waited.{called}
use Rattle.combiner.proofs.waiting.call.Goals as goal

pub returns-in-Ok-clause-answered : goal.returns-in-Ok-clause-answered
returns-in-Ok-clause-answered g c =
    let posted = c.post.new.client.knows in
    let after = c.wait_for-client.result.0.knows in
    called c.args.client.knows posted after _ _ _ c.in_default.ensures.posted
    (subst (λ r. IfOk r (λ a. IsWaitOver posted (answer_in g.S.SeqObject.reply_in a) after)) c.in-Ok.is
    c.wait_for-client.ensures.returns)
