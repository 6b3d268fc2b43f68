use Rattle.std.proofs.Common.{◌≡◌, ℕ, false, drop, reverse, unwrap_or}
use Rattle.number_map.specs.Lookup.{value_of}
use Rattle.events.specs.Events.{next_event, fails}
use Rattle.report.specs.Invoked.{invocations}
use Rattle.report.proofs.counting.invoked_in.Given as goal

abbrev pub invariant-loop-k : goal.invariant-loop-k
invariant-loop-k l = record {
  reversed : reverse l.all.items ≡ invocations (drop l.k l.events);
  next : (p : ℕ) → unwrap_or (value_of l.failing p) false ≡ fails (next_event p (drop l.k l.events));
}
