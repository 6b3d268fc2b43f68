use Rattle.std.proofs.Common.{inl, inr, ap, ◌∙◌}
use Rattle.std.proofs.lemmas.Result.{IfOk-weaker}
use Rattle.history_commands.specs.Merged.{status_with}
use Rattle.history_commands.proofs.MergeOutputs.{ends_certified, ends_refuted, ends_undecided}
use Rattle.history_commands.proofs.merging.Merging.output.Goals as goal

pub returns-in_ok-into_summary-in-Certified : goal.returns-in_ok-into_summary-in-Certified
returns-in_ok-into_summary-in-Certified c shards h =
    IfOk-weaker c.verdict_output.result _ _
    (λ o k. ends_certified c.args.self shards h c.in_ok-into_summary-in-Certified.field-0 o.status o.text.items
    c.in-Certified.is c.in_ok-into_summary-in-Certified.ensures k.0 k.1) c.verdict_output.ensures

pub returns-in_ok-with_lines-in-Undecided : goal.returns-in_ok-with_lines-in-Undecided
returns-in_ok-with_lines-in-Undecided c shards h =
    let m = c.args.self in
    let status = c.status-in-Undecided.ensures.is in
    let text = c.in_ok-with_lines-in-Undecided.field-0.items in
    let lines = c.in_ok-with_lines-in-Undecided.ensures in
    elim c.in-Undecided.is [
      | inl is ↦ ends_undecided m shards h c.status-in-Undecided.result text lines.0 is (status ∙ ap status_with is)
          lines.1 lines.2
      | inr is ↦ ends_refuted m shards h c.status-in-Undecided.result text lines.0 is (status ∙ ap status_with is)
          lines.1 lines.2
    ]
