use Rattle.std.proofs.Common.{◌≤◌, take, is_some}
use Rattle.number_map.specs.Lookup.{value_of}
use Rattle.report.specs.Invoked.{object_numbers, AreSeen}
use Rattle.report.proofs.counting.count_objects.Given as goal

abbrev pub invariant-loop-invoked : goal.invariant-loop-invoked
invariant-loop-invoked l = AreSeen (λ x. is_some (value_of l.objects x)) l.count
    (object_numbers l.kind (take l.invoked-index l.all)) × (l.count ≤ l.invoked-index)
