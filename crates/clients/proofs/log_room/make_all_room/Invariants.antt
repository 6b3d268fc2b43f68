use Rattle.std.proofs.Common.{◌≡◌}
use Rattle.combiner.specs.Passes.{KeepsCalls}
use Rattle.clients.proofs.log_room.make_all_room.Given as goal

abbrev pub invariant-loop-object : goal.invariant-loop-object
invariant-loop-object l = (l.client.desk ≡ l.initial.client.desk) × KeepsCalls l.initial.client.knows l.client.knows
