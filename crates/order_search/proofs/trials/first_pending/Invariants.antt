use Rattle.std.proofs.Common.{ℕ, ◌≡◌, ◌<◌, IsSome}
use Rattle.order_search.specs.Arranged.{call_at}
use Rattle.order_search.proofs.trials.first_pending.Given as goal

abbrev pub invariant-loop-item : goal.invariant-loop-item
invariant-loop-item l = record {
  here : l.place ≡ l.item-index;
  returned : (k : ℕ) → k < l.place → IsSome (call_at l.items k).returned;
}
