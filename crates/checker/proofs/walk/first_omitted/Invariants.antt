use Rattle.checker.specs.Ends.{AreMarked}
use Rattle.checker.proofs.walk.first_omitted.Given as goal

-- each operation so far that returned is marked
abbrev pub invariant-loop-k : goal.invariant-loop-k
invariant-loop-k l = AreMarked l.ops l.seen l.k
