use Rattle.std.proofs.Common.{take}
use Rattle.checker.proofs.Certificates.{AreLeft}
use Rattle.checker.proofs.all.strange_object.Given as goal

abbrev pub invariant-loop-object : goal.invariant-loop-object
invariant-loop-object l = AreLeft l.certificates (take l.object-index l.objects) l.places
