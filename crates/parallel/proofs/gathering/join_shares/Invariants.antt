use Rattle.parallel.proofs.Joining.{AreJoined}
use Rattle.parallel.proofs.gathering.join_shares.Given as goal

abbrev pub invariant-loop-part : goal.invariant-loop-part
invariant-loop-part l = AreJoined (λ v. v.items) l.initial.part-iterator.rest.items l.part-iterator.rest.items l.sorted
