use Rattle.std.proofs.Common.{◌≡◌, ◌≤◌, ◌-◌, [], vec_len, replicate}
use Rattle.recorder.specs.Records.{items_of_each}
use Rattle.machine.proofs.new_machine.lists.Given as goal

abbrev pub invariant-listing : goal.invariant-listing
invariant-listing g l = (items_of_each l.lists.items ≡ replicate (vec_len l.lists) []) × (vec_len l.lists ≤ l.count)

abbrev pub decreases-listing : goal.decreases-listing
decreases-listing g l = l.count - vec_len l.lists
