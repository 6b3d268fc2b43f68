use Rattle.std.proofs.Common.{◌+◌, ◌-◌, ◌*◌, ◌≤◌, length}
use Rattle.order_search.specs.Searching.{IsSearching}
use Rattle.order_search.proofs.walk.State.run.Given as goal

abbrev pub invariant-loop-self : goal.invariant-loop-self
invariant-loop-self l = record {
  search : IsSearching l.trials l.self;
  steps : l.steps ≤ l.limit;
}

-- each level took a step, and a step adds one level at most
abbrev pub decreases-loop-self : goal.decreases-loop-self
decreases-loop-self l =
    (l.limit - l.steps) * (2 * (length l.trials.items.items + 2))
    + length l.self.levels.items * (length l.trials.items.items + 2) + (length l.trials.items.items + 1 - l.self.at)
