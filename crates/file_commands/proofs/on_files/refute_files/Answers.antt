-- `refute_files`: what is written is what `refute_history` makes of the two texts that were read.
use Rattle.std.proofs.Common.{inr}
use Rattle.std.proofs.lemmas.Result.{IfOk-weaker}
use Rattle.history_commands.specs.Refuted.{IsRefute}
use Rattle.file_commands.proofs.Leaving.{leaves_as, made_on_texts}
use Rattle.file_commands.proofs.UnreadFiles.{unread_by}
use Rattle.file_commands.proofs.on_files.refute_files.Goals as goal

pub returns-in-Ok-clause-leaves : goal.returns-in-Ok-clause-leaves
returns-in-Ok-clause-leaves g c = leaves_as c.write_output.ensures.leaves
    (made_on_texts (λ first second. IsRefute first second c.args.steps) _ _ _ _ c.in-Ok.made c.in-Ok.text.items
    c.deref.result.now c.refute_history.result c.in-Ok.ensures.read c.deref.ensures.value c.refute_history.ensures)

pub returns-in-Err-clause-leaves : goal.returns-in-Err-clause-leaves
returns-in-Err-clause-leaves g c = IfOk-weaker c.end_unread.result _ _
    (λ number left. leaves_as left (λ status out k. inr k)) c.end_unread.ensures.leaves

pub returns-in-Err-clause-unread : goal.returns-in-Err-clause-unread
returns-in-Err-clause-unread g c = unread_by g.H.Source.remaining g.H.Source.broken g.H.Source.refuses
    g.T.Source.remaining g.T.Source.broken g.T.Source.refuses c.args.history.now
    c.read_history_and_text.new.history c.args.reasons.now c.read_history_and_text.new.other c.args.sink.now
    c.end_unread.new.sink c.in-Err.unread.which c.in-Err.unread.fault c.end_unread.result c.in-Err.ensures.unread
    c.end_unread.ensures.unread c.end_unread.ensures.nothing_written
