use Rattle.std.proofs.Common.{◌≡◌, ℕ, ◌-◌, ◌<◌, ◌≤◌, length, vec_len, vec_capacity}
use mathlib.Core.Option.{some}
use lib.ListN.{get_elem?}
use Rattle.desk_invariant.specs.declared.board.Slot.TheVariants as slot
use Rattle.publication.specs.Making.{AreCores, rosters_of}
use Rattle.publication.proofs.new_desk.all_slots.Given as goal

abbrev pub invariant-loop-slots : goal.invariant-loop-slots
invariant-loop-slots g l =
    (vec_len l.slots ≤ 80) × (vec_capacity l.slots ≡ 80) × (length l.slots.items ≡ vec_len l.slots)
    × (length l.fn.objects.items ≤ vec_len l.slots)
    × AreCores l.fn.objects.items (rosters_of l.fn.lists.items) l.slots.items
    × ((i : ℕ) → length l.fn.objects.items ≤ i → i < vec_len l.slots → get_elem? l.slots.items i ≡ some slot.Nothing)

abbrev pub decreases-loop-slots : goal.decreases-loop-slots
decreases-loop-slots g l = 80 - vec_len l.slots
