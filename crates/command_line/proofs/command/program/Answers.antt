-- The program without commands, and then one command more: clap adds its shape, by the lemmas on one step.
use Rattle.std.proofs.Common.{rules, ◌≡◌, ◌∙◌, ap, arith, map}
use Rattle.clap.specs.Words.{app_of}
use Rattle.command_line.specs.Command.{command_of, program, with_commands}
use Rattle.command_line.proofs.Told.{adds_command, more_commands}
use Rattle.command_line.proofs.command.program.Goals as goal

pub loop-row-init : goal.loop-row-init
loop-row-init c =
    let start : app_of c.subcommand_required-program.result ≡ program = search rules in
    ap
    (λ a. with_commands a
    (map (λ row. command_of row.0.now (map (λ f. f.0.now) row.2.now) (map (λ o. (o.0.now, o.2)) row.3.now))
    c.args.rows.now))
    start

pub loop-row-preserved : goal.loop-row-preserved
loop-row-preserved c =
    let at = c.loop-row in
    let step = adds_command at.program c.in_ok-command_of.field-0 c.in_ok-program.program _ c.in_ok-program.ensures
    c.in_ok-command_of.ensures.globals c.in_ok-command_of.ensures.shape in
    more_commands c.args.rows.now at.row-index _ (omega arith)
    (λ row. command_of row.0.now (map (λ f. f.0.now) row.2.now) (map (λ o. (o.0.now, o.2)) row.3.now))
    _ _ step ∙ at.invariant
