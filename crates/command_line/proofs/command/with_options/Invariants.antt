-- The options that are left make of the command so far what all of them make of the first command,
-- and no argument is global.
use Rattle.std.proofs.Common.{◌≡◌, drop, map}
use Rattle.clap.specs.Words.{app_of}
use Rattle.clap.specs.declared.builder.command.Command.TheViews.{out-Command as fields_of}
use Rattle.command_line.specs.Command.{option_rule, with_rules}
use Rattle.command_line.proofs.command.with_options.Given as goal

abbrev pub invariant-loop-option : goal.invariant-loop-option
invariant-loop-option l =
    (with_rules (app_of l.command) (map option_rule (map (λ o. (o.0.now, o.2)) (drop l.option-index l.options)))
    ≡ with_rules (app_of l.initial.command) (map option_rule (map (λ o. (o.0.now, o.2)) l.options)))
    × ((fields_of l.command).has_globals ≡ (fields_of l.initial.command).has_globals)
