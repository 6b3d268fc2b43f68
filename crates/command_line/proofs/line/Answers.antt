-- `clap` was told the commands of the program, so its answer is what the words ask for, by the lemmas on what it found.
use Rattle.std.proofs.Common.{◌∙◌, map, refl}
use Rattle.clap.specs.Words.{app_of}
use Rattle.command_line.specs.Command.{bench}
use Rattle.command_line.specs.Lines.{IsLine}
use Rattle.command_line.proofs.Found.{asked, bench_simple, found_is, not_read, refused}
use Rattle.command_line.proofs.line.Goals as goal

pub returns-in-Ok-bench_line : goal.returns-in-Ok-bench_line
returns-in-Ok-bench_line g c =
    asked IsLine bench bench_simple (app_of c.in_ok-program.field-0) (map g.S.AsStr.text c.args.words.now)
    (c.in_ok-program.ensures ∙ rw c.as_slice.ensures refl)
    c.in-Ok.matches c.in-Ok.ensures.kinds c.in-Ok.ensures.matches _
    (found_is c.in-Ok.matches c.subcommand.result c.subcommand.ensures.name c.subcommand.ensures.rows)
    c.in-Ok-bench_line.line c.in-Ok-bench_line.ensures

pub returns-in-Ok : goal.returns-in-Ok
returns-in-Ok g c =
    not_read IsLine bench bench_simple (app_of c.in_ok-program.field-0) (map g.S.AsStr.text c.args.words.now)
    (c.in_ok-program.ensures ∙ rw c.as_slice.ensures refl)
    c.in-Ok.matches c.in-Ok.ensures.kinds c.in-Ok.ensures.matches _
    (found_is c.in-Ok.matches c.subcommand.result c.subcommand.ensures.name c.subcommand.ensures.rows)
    c.in-Err-bench_line.unfit c.explain.result c.explain.ensures.memory c.explain.ensures.refused
    c.in-Err-bench_line.ensures

pub returns : goal.returns
returns g c =
    refused IsLine bench bench_simple (app_of c.in_ok-program.field-0) (map g.S.AsStr.text c.args.words.now)
    (c.in_ok-program.ensures ∙ rw c.as_slice.ensures refl)
    c.in-Err.error c.fault_of.result c.in-Err.ensures.kinds c.fault_of.ensures
