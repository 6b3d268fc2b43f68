use Rattle.parallel.proofs.Joining.{ArePutIn}
use Rattle.parallel.proofs.gathering.put_in.Given as goal

abbrev pub invariant-loop-object : goal.invariant-loop-object
invariant-loop-object l =
    ArePutIn l.initial.object-iterator.rest.items l.object-iterator.rest.items l.initial.sorted l.sorted
