use Rattle.std.proofs.Common.{◌≡◌, ◌≤◌, ◌-◌, vec_len, replicate}
use Rattle.machine.proofs.new_machine.copies.Given as goal

abbrev pub invariant-copying : goal.invariant-copying
invariant-copying g l = (l.values.items ≡ replicate (vec_len l.values) l.value) × (vec_len l.values ≤ l.count)

abbrev pub decreases-copying : goal.decreases-copying
decreases-copying g l = l.count - vec_len l.values
