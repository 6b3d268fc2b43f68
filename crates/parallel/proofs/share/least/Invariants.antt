use Rattle.std.proofs.Common.{take}
use Rattle.parallel.proofs.Sharing.{IsLeastOf}
use Rattle.parallel.proofs.share.least.Given as goal

abbrev pub invariant-loop-share : goal.invariant-loop-share
invariant-loop-share l = IsLeastOf (take l.share-index l.found) l.least
