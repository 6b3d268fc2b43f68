use Rattle.std.proofs.Common.{ℕ, ◌≡◌, ◌<◌, ◌≤◌, ◌⊎◌, true, IsSome, length, get_or}
use Rattle.order_search.specs.Arranged.{call_at}
use Rattle.order_search.proofs.trials.floors_of.Given as goal

abbrev pub invariant-loop-k : goal.invariant-loop-k
invariant-loop-k l = record {
  long : length l.floors.items ≡ length l.items;
  below : (i j : ℕ) → l.k ≤ i → i ≤ j → j < length l.items → (l.of_all ≡ true) ⊎ IsSome (call_at l.items j).returned
      → get_or l.floors.items i 0 ≤ (call_at l.items j).number;
  least : (j : ℕ) → l.k ≤ j → j < length l.items → (l.of_all ≡ true) ⊎ IsSome (call_at l.items j).returned
      → l.least ≤ (call_at l.items j).number;
}
