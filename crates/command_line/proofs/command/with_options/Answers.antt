-- One option more: clap adds its rule, by the lemmas on one step.
use Rattle.std.proofs.Common.{◌∙◌, arith}
use Rattle.command_line.specs.Command.{option_rule}
use Rattle.command_line.proofs.Told.{adds_rule, more_rules}
use Rattle.command_line.proofs.command.with_options.Goals as goal

pub loop-option-preserved : goal.loop-option-preserved
loop-option-preserved c =
    let at = c.loop-option in
    let step = adds_rule at.command c.option_argument.result c.in_ok-command.command _ c.in_ok-command.ensures
    c.option_argument.ensures.local c.option_argument.ensures.rule in (
      more_rules c.args.options.now at.option-index _ (omega arith) option_rule (λ o. (o.0.now, o.2)) _ _ step.0
          ∙ at.invariant.0,
      step.1 ∙ at.invariant.1,
    )
