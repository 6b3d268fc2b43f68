use Rattle.std.proofs.Common.{◌≡◌, map, take, All}
use Rattle.desk_model.specs.Records.{order_of}
use Rattle.recorder.specs.Histories.{logs_in}
use Rattle.transcript.proofs.accounts.certificates_by.Given as goal

-- a certificate for each of the objects so far, with the tickets of its log
abbrev pub invariant-loop-named : goal.invariant-loop-named
invariant-loop-named g l = record {
  objects : map (λ c. c.object) l.certificates.items ≡ map (λ o. o.object) (take l.named-index l.named-items);
  orders : All (λ c. c.order.items ≡ order_of (logs_in g.S.SeqObject.op_in g.S.SeqObject.reply_in l.recorded c.object))
      l.certificates.items;
}
