-- `clap` was told the commands of the program, so its answer is what the words ask for, by the lemmas on what it found.
use Rattle.std.proofs.Common.{◌∙◌, map, refl}
use Rattle.clap.specs.Words.{app_of}
use Rattle.command_line.specs.Command.{verifier}
use Rattle.command_line.specs.Lines.{IsHistoryLine}
use Rattle.command_line.proofs.Found.{asked, verifier_simple, found_is, not_read, refused}
use Rattle.command_line.proofs.history_line.Goals as goal

pub returns-in-Ok-verifier_line : goal.returns-in-Ok-verifier_line
returns-in-Ok-verifier_line g c =
    asked IsHistoryLine verifier verifier_simple (app_of c.in_ok-program.field-0) (map g.S.AsStr.text c.args.words.now)
    (c.in_ok-program.ensures ∙ rw c.as_slice.ensures refl)
    c.in-Ok.matches c.in-Ok.ensures.kinds c.in-Ok.ensures.matches _
    (found_is c.in-Ok.matches c.subcommand.result c.subcommand.ensures.name c.subcommand.ensures.rows)
    c.in-Ok-verifier_line.history_line c.in-Ok-verifier_line.ensures

pub returns-in-Ok : goal.returns-in-Ok
returns-in-Ok g c =
    not_read IsHistoryLine verifier verifier_simple (app_of c.in_ok-program.field-0)
    (map g.S.AsStr.text c.args.words.now)
    (c.in_ok-program.ensures ∙ rw c.as_slice.ensures refl)
    c.in-Ok.matches c.in-Ok.ensures.kinds c.in-Ok.ensures.matches _
    (found_is c.in-Ok.matches c.subcommand.result c.subcommand.ensures.name c.subcommand.ensures.rows)
    c.in-Err-verifier_line.unfit c.explain.result c.explain.ensures.memory c.explain.ensures.refused
    c.in-Err-verifier_line.ensures

pub returns : goal.returns
returns g c =
    refused IsHistoryLine verifier verifier_simple (app_of c.in_ok-program.field-0)
    (map g.S.AsStr.text c.args.words.now)
    (c.in_ok-program.ensures ∙ rw c.as_slice.ensures refl)
    c.in-Err.error c.fault_of.result c.in-Err.ensures.kinds c.fault_of.ensures
