-- `perform_on_files`: the exit status and the output are those of the command on the texts that were read. A yes then
-- means that the history is linearizable (`shows_yes`), and a no that it is not (`shows_no`).
use Rattle.std.proofs.Common.{refl}
use Rattle.std.proofs.lemmas.Result.{IfErr-weaker, IfOk-weaker}
use Rattle.file_commands.proofs.Leaving.{leaves_as}
use Rattle.file_commands.proofs.StatusMeanings.{shows_no, shows_yes}
use Rattle.file_commands.proofs.UnreadFiles.{only_is_first}
use Rattle.file_commands.proofs.on_files.perform_on_files.Goals as goal

pub returns-in-Check-clause-performs : goal.returns-in-Check-clause-performs
returns-in-Check-clause-performs g c = rw c.in-Check.is c.check_files.ensures.leaves

pub returns-in-Check-clause-linearizable : goal.returns-in-Check-clause-linearizable
returns-in-Check-clause-linearizable g c = IfOk-weaker c.check_files.result _ _
    (λ number left. shows_yes _ _ _ _ c.args.line.now left) (returns-in-Check-clause-performs g c)

pub returns-in-Check-clause-refuted : goal.returns-in-Check-clause-refuted
returns-in-Check-clause-refuted g c = IfOk-weaker c.check_files.result _ _
    (λ number left. shows_no _ _ _ _ c.args.line.now left) (returns-in-Check-clause-performs g c)

pub returns-in-Search-clause-performs : goal.returns-in-Search-clause-performs
returns-in-Search-clause-performs g c = rw c.in-Search.is
    (IfOk-weaker c.search_file.result _ _ (λ number left. leaves_as left (λ status out k. (k, refl)))
    c.search_file.ensures.leaves)

pub returns-in-Search-clause-unread : goal.returns-in-Search-clause-unread
returns-in-Search-clause-unread g c = IfErr-weaker c.search_file.result _ _
    (λ which u. only_is_first g.F.Source.remaining g.F.Source.broken g.F.Source.refuses c.args.first.now
    c.search_file.new.history c.args.sink.now c.search_file.new.sink g.G.Source.remaining g.G.Source.broken
    g.G.Source.refuses c.args.second.now which u) c.search_file.ensures.unread

pub returns-in-Search-clause-linearizable : goal.returns-in-Search-clause-linearizable
returns-in-Search-clause-linearizable g c = IfOk-weaker c.search_file.result _ _
    (λ number left. shows_yes _ _ _ _ c.args.line.now left) (returns-in-Search-clause-performs g c)

pub returns-in-Search-clause-refuted : goal.returns-in-Search-clause-refuted
returns-in-Search-clause-refuted g c = IfOk-weaker c.search_file.result _ _
    (λ number left. shows_no _ _ _ _ c.args.line.now left) (returns-in-Search-clause-performs g c)

pub returns-in-Refute-clause-performs : goal.returns-in-Refute-clause-performs
returns-in-Refute-clause-performs g c = rw c.in-Refute.is c.refute_files.ensures.leaves

pub returns-in-Refute-clause-linearizable : goal.returns-in-Refute-clause-linearizable
returns-in-Refute-clause-linearizable g c = IfOk-weaker c.refute_files.result _ _
    (λ number left. shows_yes _ _ _ _ c.args.line.now left) (returns-in-Refute-clause-performs g c)

pub returns-in-Refute-clause-refuted : goal.returns-in-Refute-clause-refuted
returns-in-Refute-clause-refuted g c = IfOk-weaker c.refute_files.result _ _
    (λ number left. shows_no _ _ _ _ c.args.line.now left) (returns-in-Refute-clause-performs g c)

pub returns-in-Verify-clause-performs : goal.returns-in-Verify-clause-performs
returns-in-Verify-clause-performs g c = rw c.in-Verify.is c.verify_files.ensures.leaves

pub returns-in-Verify-clause-linearizable : goal.returns-in-Verify-clause-linearizable
returns-in-Verify-clause-linearizable g c = IfOk-weaker c.verify_files.result _ _
    (λ number left. shows_yes _ _ _ _ c.args.line.now left) (returns-in-Verify-clause-performs g c)

pub returns-in-Verify-clause-refuted : goal.returns-in-Verify-clause-refuted
returns-in-Verify-clause-refuted g c = IfOk-weaker c.verify_files.result _ _
    (λ number left. shows_no _ _ _ _ c.args.line.now left) (returns-in-Verify-clause-performs g c)
