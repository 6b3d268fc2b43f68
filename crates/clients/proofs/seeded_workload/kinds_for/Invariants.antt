use Rattle.std.proofs.Common.{◌≡◌}
use Rattle.seq_objects.specs.Kinds.{kinds_of}
use Rattle.clients.proofs.seeded_workload.kinds_for.Given as goal

abbrev pub invariant-loop-object : goal.invariant-loop-object
invariant-loop-object l = l.all.items ≡ kinds_of l.kinds l.object
