-- `perform_over`: the exit status and the output are those of the command on the texts that were read. A yes of a check
-- or a search then means that the history is linearizable (`shows_yes`), and a no of a search that it is not
-- (`shows_no`).
use Rattle.std.proofs.Common.{refl}
use Rattle.std.proofs.lemmas.Result.{IfErr-weaker, IfOk-weaker}
use Rattle.command_line.specs.declared.lines.FilesLine.TheVariants as files
use Rattle.bench_commands.specs.Runs.{IsRunResult}
use Rattle.file_commands.proofs.Leaving.{leaves_as, made_as}
use Rattle.file_commands.proofs.StatusMeanings.{shows_no, shows_yes}
use Rattle.file_commands.proofs.UnreadFiles.{only_is_first}
use Rattle.bench_commands.proofs.program.perform_over.Goals as goal

pub returns-in-Check-clause-performs : goal.returns-in-Check-clause-performs
returns-in-Check-clause-performs g c = rw c.in-Check.is c.check_files.ensures.leaves

pub returns-in-Check-clause-linearizable : goal.returns-in-Check-clause-linearizable
returns-in-Check-clause-linearizable g c = IfOk-weaker c.check_files.result _ _
    (λ number left says. shows_yes _ _ _ _ (files.Check c.in-Check.line) left refl) c.check_files.ensures.leaves

pub returns-in-Check-clause-refuted : goal.returns-in-Check-clause-refuted
returns-in-Check-clause-refuted g c = rw c.in-Check.is
    (IfOk-weaker c.check_files.result _ _ (λ number left says. absurd cc) c.check_files.ensures.leaves)

pub returns-in-Search-clause-performs : goal.returns-in-Search-clause-performs
returns-in-Search-clause-performs g c = rw c.in-Search.is
    (IfOk-weaker c.search_file.result _ _ (λ number left. leaves_as left (λ status out k. (k, refl)))
    c.search_file.ensures.leaves)

pub returns-in-Search-clause-linearizable : goal.returns-in-Search-clause-linearizable
returns-in-Search-clause-linearizable g c = IfOk-weaker c.search_file.result _ _
    (λ number left says. shows_yes _ _ (g.G.Source.remaining c.args.second.now) _ (files.Search c.in-Search.line)
    (leaves_as left (λ status out k. (k, refl))) refl) c.search_file.ensures.leaves

pub returns-in-Search-clause-refuted : goal.returns-in-Search-clause-refuted
returns-in-Search-clause-refuted g c = IfOk-weaker c.search_file.result _ _
    (λ number left says. shows_no _ _ (g.G.Source.remaining c.args.second.now) _ (files.Search c.in-Search.line)
    (leaves_as left (λ status out k. (k, refl))) refl) c.search_file.ensures.leaves

pub returns-in-Search-clause-unread : goal.returns-in-Search-clause-unread
returns-in-Search-clause-unread g c = IfErr-weaker c.search_file.result _ _
    (λ which u. only_is_first g.F.Source.remaining g.F.Source.broken g.F.Source.refuses c.args.first.now
    c.search_file.new.history c.args.sink.now c.search_file.new.sink g.G.Source.remaining g.G.Source.broken
    g.G.Source.refuses c.args.second.now which u) c.search_file.ensures.unread

pub returns-in-Run-clause-performs : goal.returns-in-Run-clause-performs
returns-in-Run-clause-performs g c = rw c.in-Run.is (leaves_as c.write_output.ensures.leaves
    (λ status out k. (made_as (IsRunResult c.in-Run.options) c.run.result c.run.ensures status out k, refl, refl)))

pub returns-in-Run-clause-linearizable : goal.returns-in-Run-clause-linearizable
returns-in-Run-clause-linearizable g c = rw c.in-Run.is (λ says. absurd cc)

pub returns-in-Run-clause-refuted : goal.returns-in-Run-clause-refuted
returns-in-Run-clause-refuted g c = rw c.in-Run.is (λ says. absurd cc)

pub returns-in-Simulate-clause-performs : goal.returns-in-Simulate-clause-performs
returns-in-Simulate-clause-performs g c = rw c.in-Simulate.is
    (IfOk-weaker c.simulate_file.result _ _ (λ number left. leaves_as left (λ status out k. (k, refl)))
    c.simulate_file.ensures.leaves)

pub returns-in-Simulate-clause-linearizable : goal.returns-in-Simulate-clause-linearizable
returns-in-Simulate-clause-linearizable g c = rw c.in-Simulate.is
    (IfOk-weaker c.simulate_file.result _ _ (λ number left says. absurd cc) c.simulate_file.ensures.leaves)

pub returns-in-Simulate-clause-refuted : goal.returns-in-Simulate-clause-refuted
returns-in-Simulate-clause-refuted g c = rw c.in-Simulate.is
    (IfOk-weaker c.simulate_file.result _ _ (λ number left says. absurd cc) c.simulate_file.ensures.leaves)

pub returns-in-Simulate-clause-unread : goal.returns-in-Simulate-clause-unread
returns-in-Simulate-clause-unread g c = IfErr-weaker c.simulate_file.result _ _
    (λ which u. only_is_first g.F.Source.remaining g.F.Source.broken g.F.Source.refuses c.args.first.now
    c.simulate_file.new.schedule c.args.sink.now c.simulate_file.new.sink g.G.Source.remaining g.G.Source.broken
    g.G.Source.refuses c.args.second.now which u) c.simulate_file.ensures.unread
