use Rattle.std.proofs.Common.{take}
use Rattle.checker.proofs.Certificates.{AreObjects, AreFine}
use Rattle.checker.proofs.all.check_all.Given as goal

abbrev pub invariant-loop-object : goal.invariant-loop-object
invariant-loop-object l = record {
  objects : AreObjects l.history l.object-items;
  fine : AreFine l.history l.certificates (take l.object-index l.object-items);
}
