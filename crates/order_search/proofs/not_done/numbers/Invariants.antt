use Rattle.std.proofs.Common.{◌≡◌, ◌<◌, ℕ, length, get_or}
use Rattle.order_search.proofs.not_done.numbers.Given as goal

abbrev pub invariant-loop-k : goal.invariant-loop-k
invariant-loop-k l = record { long : length l.v.items ≡ l.k; each : (j : ℕ) → j < l.k → get_or l.v.items j 0 ≡ j }
