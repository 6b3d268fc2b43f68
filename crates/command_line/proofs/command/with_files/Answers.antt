-- One file more: clap adds its rule, by the lemmas on one step.
use Rattle.std.proofs.Common.{◌∙◌, arith}
use Rattle.command_line.specs.Command.{file_rule}
use Rattle.command_line.proofs.Told.{adds_rule, more_rules}
use Rattle.command_line.proofs.command.with_files.Goals as goal

pub loop-file-preserved : goal.loop-file-preserved
loop-file-preserved c =
    let at = c.loop-file in
    let step = adds_rule at.command c.file_argument.result c.in_ok-command.command _ c.in_ok-command.ensures
    c.file_argument.ensures.local c.file_argument.ensures.rule in (
      more_rules c.args.files.now at.file-index _ (omega arith) file_rule (λ f. f.0.now) _ _ step.0
          ∙ at.invariant.0,
      step.1 ∙ at.invariant.1,
    )
