use Rattle.std.proofs.Common.{◌≤◌}
use Rattle.combiner.specs.Passes.{Goes}
use Rattle.combiner.proofs.passes.serve_others.Given as goal

abbrev pub invariant-loop-at : goal.invariant-loop-at
invariant-loop-at g l = Goes l.initial.pass l.pass × (l.count ≤ l.at)
