use Rattle.std.proofs.Common.{length, ◌-◌}
use Rattle.parallel.proofs.Sharing.{HasChecked}
use Rattle.parallel.proofs.share.check_share.Given as goal

abbrev pub invariant-loop-place : goal.invariant-loop-place
invariant-loop-place g l = HasChecked l.worker l.workers l.objects l.certificates l.place

abbrev pub decreases-loop-place : goal.decreases-loop-place
decreases-loop-place g l = length l.objects - l.place
