use Rattle.combiner.specs.Passes.{IsSameBut}
use Rattle.combiner.proofs.passes.walk.Given as goal

abbrev pub invariant-loop-at : goal.invariant-loop-at
invariant-loop-at g l = IsSameBut l.fn.pass l.pass
