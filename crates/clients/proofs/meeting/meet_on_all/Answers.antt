use Rattle.std.proofs.Common.{◌∙◌}
use Rattle.clients.proofs.Meetings.{alike_more, keeps_on, keeps_seeing}
use Rattle.clients.proofs.meeting.meet_on_all.Goals as goal

pub loop-object-preserved : goal.loop-object-preserved
loop-object-preserved c =
    let l = c.loop-object in
    let m = c.meet.ensures.met in
    let own = c.meet.result.0 in
    let other = c.meet.result.1 in
    record {
      desks = (c.meet.ensures.desk.0 ∙ l.invariant.desks.0, c.meet.ensures.desk.1 ∙ l.invariant.desks.1);
      own = keeps_on c.args.own.knows l.own.knows own.knows l.invariant.own
          (keeps_seeing l.own.knows own.knows l.object m.log m.first m.begins_first);
      other = keeps_on c.args.other.knows l.other.knows other.knows l.invariant.other
          (keeps_seeing l.other.knows other.knows l.object m.log m.second m.begins_second);
      alike = alike_more l.object l.own l.other own other l.invariant.alike m;
    }
