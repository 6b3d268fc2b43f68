use Rattle.std.proofs.Common.{◌≤◌, length}
use Rattle.combiner.specs.Passes.{IsSameBut}
use Rattle.combiner.proofs.passes.clean.Given as goal

abbrev pub invariant-loop-at : goal.invariant-loop-at
invariant-loop-at g l = IsSameBut l.fn.pass l.pass × (l.at ≤ length l.pass.state.list.rows)

abbrev pub decreases-loop-at : goal.decreases-loop-at
decreases-loop-at g l = l.at
