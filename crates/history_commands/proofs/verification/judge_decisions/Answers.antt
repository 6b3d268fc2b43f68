use Rattle.std.proofs.Common.{rules, ◌≡◌, false, inl, inr}
use Rattle.std.proofs.lemmas.Result.{IfOk-weaker}
use Rattle.std.specs.List.{list_all}
use Rattle.verifying.specs.Decisions.{is_order}
use Rattle.history_commands.proofs.Verified.{are_open}
use Rattle.history_commands.proofs.verification.judge_decisions.Goals as goal

pub returns-then-are_all_found : goal.returns-then-are_all_found
returns-then-are_all_found c claims limit decided =
    IfOk-weaker c.verdict_output.result _ _
    (λ o k. inr (c.verdict_of.result, c.verdict_of.ensures claims limit decided, k.0, k.1)) c.verdict_output.ensures

pub returns : goal.returns
returns c claims limit decided =
    let es = c.args.history.now in
    let answers = c.args.answers.now in
    let some : list_all (λ a. is_order a.1) answers ≡ false = search rules in
    IfOk-weaker c.output_of.result _ _
    (λ o k. inl (are_open es claims limit o.status o.text.items answers decided some k.0 k.1)) c.output_of.ensures
