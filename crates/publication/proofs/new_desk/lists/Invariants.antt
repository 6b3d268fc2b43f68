use Rattle.std.proofs.Common.{◌≡◌, ◌≤◌, ◌-◌, length, vec_len, vec_capacity}
use Rattle.publication.specs.Making.{AreDealt, AreWalkersOf}
use Rattle.publication.proofs.new_desk.lists.Given as goal

abbrev pub invariant-loop-alloc : goal.invariant-loop-alloc
invariant-loop-alloc l =
    (vec_len l.rosters ≤ 16) × (vec_capacity l.rosters ≡ 16) × (vec_len l.walkers ≡ vec_len l.rosters)
    × (vec_capacity l.walkers ≡ 16) × AreWalkersOf l.rosters.items l.walkers.items
    × AreDealt 0 (length l.fn.owners.items) l.rosters.items l.owners.items

abbrev pub decreases-loop-alloc : goal.decreases-loop-alloc
decreases-loop-alloc l = 16 - vec_len l.rosters
