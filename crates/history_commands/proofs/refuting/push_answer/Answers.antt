use Rattle.std.proofs.Common.{◌≡◌, ◌++◌, ℕ, List, subst}
use Rattle.std.specs.Prelude.{OnOk}
use Rattle.history_commands.specs.Refuted.{call_count_on}
use Rattle.history_commands.proofs.Refuted.{counted, named_by, same_lines}
use Rattle.history_commands.proofs.refuting.push_answer.Goals as goal

pub returns : goal.returns
returns c =
    let es = c.args.history.now in
    let reason = c.args.reason.now in
    let answer = c.args.answer.now in
    let n = c.call_count_of-whole.result in
    let same = same_lines es n (call_count_on es reason) c.args.steps reason answer
    (λ shown. counted es c.args.objects.now reason.object n c.requires.calls
    (c.call_count_of-whole.ensures
    (c.requires.named reason.object (named_by es reason answer c.requires.answer shown)))) in
    subst (λ (l : List ℕ). OnOk c.push_answer_on.result (c.push_answer_on.new.text.items ≡ c.args.text.now.items ++ l))
    same c.push_answer_on.ensures
