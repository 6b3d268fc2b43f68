-- `search_file`: what is written is what `search_history` makes of the text that was read.
use Rattle.std.proofs.Common.{inr, sym, subst}
use Rattle.std.proofs.lemmas.Result.{IfOk-weaker}
use Rattle.edn.specs.Given.{WasRead}
use Rattle.reading.specs.Reads.{read_limit}
use Rattle.history_commands.specs.Searches.{IsSearchResult}
use Rattle.file_commands.proofs.Leaving.{leaves_as, made_on_text}
use Rattle.file_commands.proofs.UnreadFiles.{unread_only_by}
use Rattle.file_commands.proofs.on_files.search_file.Goals as goal

pub returns-clause-leaves : goal.returns-clause-leaves
returns-clause-leaves g c =
    let h = c.deref.result.now in
    let m = c.history_of_text-made.ensures in
    leaves_as c.write_output.ensures.leaves
    (made_on_text (λ text. IsSearchResult text c.args.steps) _ _ h c.search_history.result
    (subst (WasRead read_limit (g.H.Source.remaining c.args.history.now) (g.H.Source.remaining c.read_text.new.source))
    (sym c.deref.ensures.value) c.in-Ok.ensures.read)
    (c.search_history.ensures h
    (record { denotes = m.denotes; only = m.only; short = m.short; stop = m.stop; accepts = m.accepts })))

pub returns-in-Err-clause-leaves : goal.returns-in-Err-clause-leaves
returns-in-Err-clause-leaves g c = IfOk-weaker c.end_unread.result _ _
    (λ number left. leaves_as left (λ status out k. inr k)) c.end_unread.ensures.leaves

pub returns-in-Err-clause-unread : goal.returns-in-Err-clause-unread
returns-in-Err-clause-unread g c = unread_only_by g.H.Source.remaining g.H.Source.broken g.H.Source.refuses
    c.args.history.now c.read_text.new.source c.args.sink.now c.end_unread.new.sink c.in-Err.fault c.end_unread.result
    c.in-Err.ensures.fault c.in-Err.ensures.refused c.end_unread.ensures.unread c.end_unread.ensures.nothing_written
