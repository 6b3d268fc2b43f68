use Rattle.std.proofs.Common.{sym, subst}
use Rattle.events.specs.Events.{IsProper}
use Rattle.object_tests.proofs.ThreeOperations.{three_proper}
use Rattle.object_tests.proofs.splitting.three_operations.Goals as goal

pub new-requires-2 : goal.new-requires-2
new-requires-2 c = subst IsProper (sym c.in-Ok.ensures.items) three_proper
