use Rattle.std.proofs.Common.{◌≤◌, length, vec_len}
use Rattle.publication_list.specs.Calls.{AreRowPlaces}
use Rattle.publication_list.specs.Dealing.{AreGrownFrom}
use Rattle.publication_list.proofs.roster.Roster.new_with_places.Given as goal

abbrev pub invariant-loop-place : goal.invariant-loop-place
invariant-loop-place l =
    AreRowPlaces l.shared.value.id (length l.places.items) l.places.items
    × (length l.places.items ≤ length l.fn.owners.items)
    × AreGrownFrom (length l.places.items) l.shared.value.id l.fn.owners.items l.owners.items

abbrev pub decreases-loop-place : goal.decreases-loop-place
decreases-loop-place l = vec_len l.places
