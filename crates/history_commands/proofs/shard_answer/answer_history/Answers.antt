use Rattle.std.proofs.Common.{inr}
use Rattle.std.proofs.lemmas.Result.{IfOk-weaker}
use Rattle.history_commands.proofs.shard_answer.answer_history.Goals as goal

pub returns-in-Err-Misfit : goal.returns-in-Err-Misfit
returns-in-Err-Misfit c = IfOk-weaker c.noted.result _ _
    (λ a said. inr (c.in-Err-Misfit.ensures.misfit c.in-Err-Misfit.field-0-is, said)) c.noted.ensures
