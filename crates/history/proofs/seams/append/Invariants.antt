use Rattle.std.proofs.Common.{◌≡◌, ◌++◌, map, take}
use Rattle.history.specs.Noting.{shift_event}
use Rattle.history.proofs.seams.append.Given as goal

abbrev pub invariant-loop-event : goal.invariant-loop-event
invariant-loop-event l = l.joined.items ≡ l.fn.events.items ++ map (shift_event l.earlier) (take l.event-index l.more)
