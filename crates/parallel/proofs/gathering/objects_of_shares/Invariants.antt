use Rattle.parallel.proofs.Joining.{AreListed}
use Rattle.parallel.proofs.gathering.objects_of_shares.Given as goal

abbrev pub invariant-loop-object : goal.invariant-loop-object
invariant-loop-object l = AreListed l.initial.object-iterator l.object-iterator l.objects.items
