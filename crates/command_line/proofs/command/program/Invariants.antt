-- The rows that are left make of the program so far what all of them make of the first program.
use Rattle.std.proofs.Common.{◌≡◌, drop, map}
use Rattle.clap.specs.Words.{app_of}
use Rattle.command_line.specs.Command.{command_of, program_of, with_commands}
use Rattle.command_line.proofs.command.program.Given as goal

abbrev pub invariant-loop-row : goal.invariant-loop-row
invariant-loop-row l =
    with_commands (app_of l.program)
    (map (λ row. command_of row.0.now (map (λ f. f.0.now) row.2.now) (map (λ o. (o.0.now, o.2)) row.3.now))
    (drop l.row-index l.rows))
    ≡ program_of
    (map (λ row. command_of row.0.now (map (λ f. f.0.now) row.2.now) (map (λ o. (o.0.now, o.2)) row.3.now)) l.rows)
