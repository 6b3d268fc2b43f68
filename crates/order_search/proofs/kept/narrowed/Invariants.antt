use Rattle.std.proofs.Common.{◌≡◌, take}
use Rattle.order_search.proofs.kept.narrowed.Given as goal

abbrev pub invariant-loop-k : goal.invariant-loop-k
invariant-loop-k l = l.narrow.items ≡ take l.k l.values.items
