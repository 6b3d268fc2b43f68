use Rattle.std.proofs.Common.{◌≡◌, ◌<◌, length, take, All}
use Rattle.shards.specs.Dividing.{with_numbers}
use Rattle.shards.proofs.Numbers.{IsDue, RiseBelow}
use Rattle.shards.proofs.numbering.renumber.Given as goal

abbrev pub invariant-loop-event : goal.invariant-loop-event
invariant-loop-event l = record {
  numbered : l.renumbered.items ≡ with_numbers l.numbers (take l.event-index l.events);
  placed : All (λ e. e.number < length l.numbers) (take l.event-index l.events);
  rise : RiseBelow l.least l.renumbered.items;
  due : IsDue l.numbers l.events l.event-index l.least;
}
