-- `perform`: the exit status and the output are those of the command, or the output failed. Each command is done by
-- a function of its own, whose contract says that of its case (`made_as`, `leaves_as`).
use Rattle.history_commands.specs.Searches.{IsSearchResult}
use Rattle.bench_commands.specs.Runs.{IsRunResult}
use Rattle.bench_commands.specs.Simulated.{IsSimulation}
use Rattle.file_commands.proofs.Leaving.{leaves_as, made_as}
use Rattle.bench_commands.proofs.program.perform.Goals as goal

pub returns-in-Check : goal.returns-in-Check
returns-in-Check g c = record { performs = rw c.in-Check.is c.check_bytes.ensures.leaves }

pub returns-in-Search : goal.returns-in-Search
returns-in-Search g c = record {
  performs = rw c.in-Search.is
      (leaves_as c.write_output.ensures.leaves
      (made_as (IsSearchResult c.args.first.now c.in-Search.line.steps) c.search.result c.search.ensures));
}

pub returns-in-Run : goal.returns-in-Run
returns-in-Run g c = record {
  performs = rw c.in-Run.is
      (leaves_as c.write_output-in-Run.ensures.leaves (made_as (IsRunResult c.in-Run.options) c.run.result
      c.run.ensures));
}

pub returns-in-Simulate : goal.returns-in-Simulate
returns-in-Simulate g c = record {
  performs = rw c.in-Simulate.is
      (leaves_as c.write_output-in-Simulate.ensures.leaves
      (made_as (IsSimulation c.args.first.now) c.play.result c.play.ensures));
}
