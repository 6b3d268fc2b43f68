use Rattle.std.proofs.Common.{◌≡◌, ℕ, ◌+◌, ◌++◌, length, vec_len, vec_capacity}
use Rattle.std.specs.Vec.Iter.{into_iter_items, into_iter_len}
use lib.ListN.{get_elem?}
use Rattle.publication.specs.Making.{AreCores, rosters_of}
use Rattle.publication.proofs.new_desk.cores.Given as goal

abbrev pub invariant-loop-object : goal.invariant-loop-object
invariant-loop-object g l =
    (l.fn.objects.items ≡ l.yielded ++ into_iter_items l.object-iterator)
    × (vec_len l.slots + into_iter_len l.object-iterator ≡ length l.fn.objects.items)
    × (length l.yielded ≡ vec_len l.slots) × (length l.slots.items ≡ vec_len l.slots) × (vec_capacity l.slots ≡ 80)
    × (vec_len l.lists + vec_len l.slots ≡ 16) × AreCores l.yielded (rosters_of l.fn.lists.items) l.slots.items
    × ((j : ℕ) → get_elem? (rosters_of l.lists.items) j ≡ get_elem? (rosters_of l.fn.lists.items) (vec_len l.slots + j))
