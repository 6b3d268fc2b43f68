use Rattle.std.proofs.Common.{take}
use Rattle.checker.specs.Checking.{IsLeastPlaced}
use Rattle.checker.proofs.all.least_placed.Given as goal

abbrev pub invariant-loop-certificate : goal.invariant-loop-certificate
invariant-loop-certificate l = IsLeastPlaced l.places (take l.certificate-index l.certificates) l.least
