-- `simulate_file`: what is written is what `play` makes of the text that was read.
use Rattle.std.proofs.Common.{inr, sym, subst}
use Rattle.std.proofs.lemmas.Result.{IfOk-weaker}
use Rattle.edn.specs.Given.{WasRead}
use Rattle.reading.specs.Reads.{read_limit}
use Rattle.bench_commands.specs.Simulated.{IsSimulation}
use Rattle.file_commands.proofs.Leaving.{leaves_as, made_on_text}
use Rattle.file_commands.proofs.UnreadFiles.{unread_only_by}
use Rattle.bench_commands.proofs.program.simulate_file.Goals as goal

pub returns-in-Ok-clause-leaves : goal.returns-in-Ok-clause-leaves
returns-in-Ok-clause-leaves g c = leaves_as c.write_output.ensures.leaves
    (made_on_text IsSimulation _ _ c.deref.result.now c.play.result
    (subst (WasRead read_limit (g.F.Source.remaining c.args.schedule.now) (g.F.Source.remaining c.read_text.new.source))
    (sym c.deref.ensures.value) c.in-Ok.ensures.read) c.play.ensures)

pub returns-in-Err-clause-leaves : goal.returns-in-Err-clause-leaves
returns-in-Err-clause-leaves g c = IfOk-weaker c.end_unread.result _ _
    (λ number left. leaves_as left (λ status out k. inr k)) c.end_unread.ensures.leaves

pub returns-in-Err-clause-unread : goal.returns-in-Err-clause-unread
returns-in-Err-clause-unread g c = unread_only_by g.F.Source.remaining g.F.Source.broken g.F.Source.refuses
    c.args.schedule.now c.read_text.new.source c.args.sink.now c.end_unread.new.sink c.in-Err.fault c.end_unread.result
    c.in-Err.ensures.fault c.in-Err.ensures.refused c.end_unread.ensures.unread c.end_unread.ensures.nothing_written
