use Rattle.std.proofs.Common.{◌≡◌, ◌++◌, map, drop}
use Rattle.desk_model.specs.Images.{event_in}
use Rattle.transcript.specs.Lines.{journal_lines_from, journal_lines}
use Rattle.transcript.proofs.line.push_journal.Given as goal

-- the lines so far, and those that are left
abbrev pub invariant-loop-event : goal.invariant-loop-event
invariant-loop-event g l =
    l.lines.items ++ journal_lines_from l.client l.last
    (map (event_in g.S.SeqObject.op_in g.S.SeqObject.reply_in) (drop l.event-index l.journal))
    ≡ l.initial.lines.items ++ journal_lines l.client (map (event_in g.S.SeqObject.op_in g.S.SeqObject.reply_in)
    l.journal)
