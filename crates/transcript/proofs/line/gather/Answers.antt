-- `gather`: the lines are those of the journals, client by client. The lines so far, then those of the journals
-- that are left, are all; each turn adds the lines of one client.
use Rattle.std.proofs.Common.{◌++◌, map, ap, ◌∙◌}
use Rattle.desk_model.specs.Images.{event_in}
use Rattle.transcript.specs.Lines.{journal_lines}
use Rattle.transcript.proofs.Journals.{journal_more}
use Rattle.transcript.proofs.Tickets.{all_lines, low_in}
use Rattle.transcript.proofs.line.gather.Goals as goal

pub push_journal-requires-after_bounds : goal.push_journal-requires-after_bounds
push_journal-requires-after_bounds g c κs within =
    low_in g.S.SeqObject.op_in g.S.SeqObject.reply_in c.args.recorded.now c.journals-journal-items.ensures.kept
    c.journals-journal-items.result.now c.journals-journal-items.ensures.journals
    c.loop-client.client c.journal-item.result c.loop-client-test.true c.journal-item.is c.as_slice.result.now
    c.as_slice.ensures.value

pub loop-client-preserved : goal.loop-client-preserved
loop-client-preserved g c =
    journal_more (λ v. map (event_in g.S.SeqObject.op_in g.S.SeqObject.reply_in) v.items)
    c.journals-journal-items.result.now c.loop-client.client c.journal-item.result
    c.loop-client.lines.items c.push_journal.new.lines.items _ c.loop-client-test.true c.journal-item.is
    c.loop-client.invariant
    (c.in_ok-push_journal.ensures
    ∙ ap (λ js. c.loop-client.lines.items
    ++ journal_lines c.loop-client.client (map (event_in g.S.SeqObject.op_in g.S.SeqObject.reply_in) js))
    c.as_slice.ensures.value)

pub returns-clause-lines : goal.returns-clause-lines
returns-clause-lines g c =
    all_lines g.S.SeqObject.op_in g.S.SeqObject.reply_in c.journals-journal-items.result.now
    c.args.recorded.now.journals c.journals-journal-items.ensures.journals c.loop-client.client
    c.loop-client.lines.items c.loop-client-test.false c.loop-client.invariant
