use Rattle.std.proofs.Common.{◌≡◌, ◌++◌, map, drop}
use Rattle.desk_model.specs.Images.{event_in}
use Rattle.transcript.specs.Lines.{lines_in}
use Rattle.transcript.proofs.line.gather.Given as goal

-- the lines so far, and those that are left
abbrev pub invariant-loop-client : goal.invariant-loop-client
invariant-loop-client g l =
    l.lines.items ++ lines_in l.client
    (map (λ v. map (event_in g.S.SeqObject.op_in g.S.SeqObject.reply_in) v.items) (drop l.client l.journal-items))
    ≡ lines_in 0 (map (λ v. map (event_in g.S.SeqObject.op_in g.S.SeqObject.reply_in) v.items) l.journal-items)
