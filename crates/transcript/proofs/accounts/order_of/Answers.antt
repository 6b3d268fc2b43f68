use Rattle.std.proofs.Common.{pos, map, ap, ◌∙◌}
use Rattle.std.proofs.lemmas.List.{take_all}
use Rattle.transcript.proofs.Certifying.{tickets_of}
use Rattle.transcript.proofs.accounts.order_of.Goals as goal

pub returns : goal.returns
returns g c =
    c.loop-entry.invariant
    ∙ (ap (map (λ e. pos e.ticket)) (take_all c.loop-entry.entry-index c.args.log.now c.loop-entry-test.false)
    ∙ tickets_of g.S.SeqObject.op_in g.S.SeqObject.reply_in c.args.log.now)
