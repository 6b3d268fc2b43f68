-- An object may have types of its own for its operations and replies, which stand for some of those
-- of all kinds.
-- These are requests, answers, entries and events with what they stand for.
use Rattle.model.specs.declared.AnyOp.{AnyOp}
use Rattle.model.specs.declared.AnyReply.{AnyReply}
use Rattle.desk_model.specs.declared.LogEntry.{LogEntry}
use Rattle.desk_model.specs.declared.Request.{Request}
use Rattle.desk_model.specs.declared.Answer.{Answer}
use Rattle.desk_model.specs.declared.Answer.TheVariants.{Reply, Refused}
use Rattle.desk_model.specs.declared.JournalEvent.{JournalEvent}
use Rattle.desk_model.specs.declared.JournalEvent.TheVariants.{Invoked, Returned}
use Rattle.desk_model.specs.World.{AnyEntry, AnyRequest, AnyAnswer, AnyEvent}

module _ {O : Type 0} (op_in : O → AnyOp) where
  -- the request, with what its operation stands for
  abbrev pub request_in : Request O → AnyRequest
  request_in q = record { object = q.object; ticket = q.ticket; op = op_in q.op }

module _ {R : Type 0} (reply_in : R → AnyReply) where
  -- the answer, with what its reply stands for
  abbrev pub answer_in : Answer R → AnyAnswer
  answer_in (Reply r) = Reply (reply_in r)
  answer_in Refused = Refused

module _ {O R : Type 0} (op_in : O → AnyOp) (reply_in : R → AnyReply) where
  -- the entry of a log, with what its operation and its reply stand for
  abbrev pub entry_in : LogEntry O R → AnyEntry
  entry_in e =
      record { client = e.client; ticket = e.ticket; op = op_in e.op; reply = reply_in e.reply }

  -- the event of a journal, with what its operation or its reply stands for
  abbrev pub event_in : JournalEvent O R → AnyEvent
  event_in (Invoked t x op) = Invoked t x (op_in op)
  event_in (Returned t a) = Returned t (answer_in reply_in a)
