use Rattle.std.proofs.Common.{◌≡◌, ℕ, length}
use Rattle.shards.specs.Taking.{NoneWait, maps_in}
use Rattle.shards.proofs.waiting.waiting_of.Given as goal

abbrev pub invariant-loop : goal.invariant-loop
invariant-loop l = record {
  long : length l.waiting.items ≡ l.counter;
  none_wait : NoneWait l.waiting.items;
  none_counted : (s : ℕ) → maps_in l.waiting.items s ≡ 0;
}
