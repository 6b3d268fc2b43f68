use Rattle.std.proofs.Common.{take}
use Rattle.verifying.specs.Taking.{AreAllOpen}
use Rattle.verifying.proofs.all.all_open.Given as goal

abbrev pub invariant-loop-object : goal.invariant-loop-object
invariant-loop-object l = AreAllOpen (take l.object-index l.objects) l.answers.items
