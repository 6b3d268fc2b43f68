use Rattle.std.proofs.Common.{◌≡◌, ◌≤◌, vec_len, vec_capacity}
use Rattle.recorder.specs.Records.{items_of_each}
use Rattle.publication.specs.Closing.{values_of, IsTakenTo, AreLogs}
use Rattle.publication.proofs.closing.take_logs.Given as goal

abbrev pub invariant-loop-x : goal.invariant-loop-x
invariant-loop-x g l = IsTakenTo l.x l.left × (values_of l.left ≡ values_of l.initial.left) × (vec_len l.logs ≡ l.x)
    × (l.objects ≤ vec_capacity l.logs) × AreLogs l.x (values_of l.initial.left) (items_of_each l.logs.items)
