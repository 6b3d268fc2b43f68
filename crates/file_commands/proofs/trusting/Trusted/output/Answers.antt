use Rattle.std.proofs.Common.{◌≡◌, ◌++◌, ◌∙◌, ap, ap₂, append_assoc}
use Rattle.history_commands.specs.Merged.{status_with}
use Rattle.file_commands.specs.Trusted.{finding_by, first_line, last_line, lines_from}
use Rattle.file_commands.proofs.trusting.Trusted.output.Goals as goal

pub returns : goal.returns
returns c all h =
    let count = c.args.shards in
    let first : c.in_ok-text.text.items ≡ first_line count = c.in_ok-text.ensures ∙ ap first_line c.from.ensures in
    let lines : c.extend_from_slice.new.self.items ≡ first_line count ++ lines_from 0 all =
    c.in_ok-extend_from_slice.ensures.items ∙ ap₂ (λ a b. a ++ b) first (c.deref.ensures.value ∙ h.lines_are) in (
      c.status.ensures.is ∙ ap status_with h.finding_is,
      c.in_ok-push_last_line.ensures ∙ (ap₂ (λ t f. t ++ last_line count f) lines h.finding_is
          ∙ append_assoc (first_line count) (lines_from 0 all) (last_line count (finding_by all))),
    )
