use Rattle.std.proofs.Common.{◌≡◌}
use Rattle.clients.specs.Made.{HaveSeenAlike, Keeps}
use Rattle.clients.proofs.meeting.meet_on_all.Given as goal

abbrev pub invariant-loop-object : goal.invariant-loop-object
invariant-loop-object l = record {
  desks : (l.own.desk ≡ l.initial.own.desk) × (l.other.desk ≡ l.initial.other.desk);
  own : Keeps l.initial.own.knows l.own.knows;
  other : Keeps l.initial.other.knows l.other.knows;
  alike : HaveSeenAlike l.object l.own.knows l.other.knows;
}
