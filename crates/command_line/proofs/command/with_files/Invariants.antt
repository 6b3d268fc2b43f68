-- The files that are left make of the command so far what all of them make of the first command, and
-- no argument is global.
use Rattle.std.proofs.Common.{◌≡◌, drop, map}
use Rattle.clap.specs.Words.{app_of}
use Rattle.clap.specs.declared.builder.command.Command.TheViews.{out-Command as fields_of}
use Rattle.command_line.specs.Command.{file_rule, with_rules}
use Rattle.command_line.proofs.command.with_files.Given as goal

abbrev pub invariant-loop-file : goal.invariant-loop-file
invariant-loop-file l =
    (with_rules (app_of l.command) (map file_rule (map (λ f. f.0.now) (drop l.file-index l.files)))
    ≡ with_rules (app_of l.initial.command) (map file_rule (map (λ f. f.0.now) l.files)))
    × ((fields_of l.command).has_globals ≡ (fields_of l.initial.command).has_globals)
