use Rattle.std.proofs.Common.{◌≡◌, length, take}
use Rattle.order_search.proofs.kept.are_values.Given as goal

abbrev pub invariant-loop-k : goal.invariant-loop-k
invariant-loop-k l = record {
  long : length l.narrow ≡ length l.values.items;
  same : take l.k l.narrow ≡ take l.k l.values.items;
}
