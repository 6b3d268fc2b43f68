-- `fcbench_check`: an answer 0 means that the history is linearizable, and the lines are those of a verdict that
-- holds. It is what `check_alone` ensures; only the status of `Yes` gives the number 0.
use Rattle.std.proofs.lemmas.Result.{IfOk-weaker}
use Rattle.reading.specs.Texts.{IsLinearizableText}
use Rattle.history_commands.specs.Checked.{IsCheck}
use Rattle.history_commands.specs.declared.status.Status.TheVariants.{Yes}
use Rattle.history_commands.proofs.Checked.{is_check}
use Rattle.history_commands.proofs.Numbers.{yes_by_number}
use Rattle.embedding.specs.Handed.{IsAnswered}
use Rattle.embedding.proofs.Handing.{accepted, answered, shows, yes_is_other}
use Rattle.embedding.proofs.check.fcbench_check.Goals as goal

pub returns : goal.returns
returns c =
    let h = c.args.history.now in
    let o = c.args.certificates.now in
    let v = c.check_alone-verdict.result in
    let e = c.check_alone-verdict.ensures in
    let out = c.args.out.now in
    let checked : IsAnswered (IsCheck h o) c.answer.result out c.answer.new.out c.answer.new.needed =
    answered (IsCheck h o) c.verdict_output.result c.answer.result out c.answer.new.out c.answer.new.needed
    (IfOk-weaker c.verdict_output.result _ _ (λ made k. is_check h o made.status made.text.items
    (v, record { linearizable = e.linearizable; judges = e.holds.judges; accepts = e.holds.accepts }, k.0, k.1))
    c.verdict_output.ensures) c.answer.ensures.made c.answer.ensures.memory in
    record {
      linearizable = shows (IsCheck h o)
          (IsLinearizableText h) Yes c.answer.result out c.answer.new.out c.answer.new.needed yes_by_number yes_is_other
          (λ status text is. is.linearizable) checked;
      checked = checked;
      accepts = accepted h o c.answer.result out c.answer.new.out c.answer.new.needed checked;
    }
