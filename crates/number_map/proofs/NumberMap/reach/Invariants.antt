use Rattle.std.proofs.Common.{◌≡◌, ℕ, ◌+◌, ◌-◌, length}
use Rattle.number_map.specs.Lookup.{value_of}
use Rattle.number_map.proofs.NumberMap.reach.Given as goal

abbrev pub invariant-slots : goal.invariant-slots
invariant-slots g l = (k : ℕ) → value_of l.self k ≡ value_of l.initial.self k

abbrev pub decreases-slots : goal.decreases-slots
decreases-slots g l = l.place + 1 - length l.self.table.items
