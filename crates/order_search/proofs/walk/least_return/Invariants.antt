use Rattle.std.proofs.Common.{ℕ, List, ◌-◌, length}
use Rattle.order_search.specs.Arranged.{call_at}
use Rattle.order_search.specs.Links.{Linked, IsStop}
use Rattle.order_search.proofs.Stack.{IsLeastBelow}
use Rattle.order_search.proofs.walk.least_return.Given as goal

abbrev pub invariant-loop-at : goal.invariant-loop-at
invariant-loop-at l = (done : List ℕ)
    → Linked (length l.trials.items.items) done l.not_done.next.items l.not_done.before.items
    → IsLeastBelow (length l.trials.items.items) (call_at l.trials.items.items) done l.at l.least
    × IsStop (length l.trials.items.items) done l.at

abbrev pub decreases-loop-at : goal.decreases-loop-at
decreases-loop-at l = length l.trials.items.items - l.at
