-- `all_slots`: the slots are the objects with their lists, and after them nothing. The slots so far have the objects in
-- front; each turn adds one more that has nothing, up to the last.
use Rattle.std.proofs.Common.{rules, arith, ◌≡◌, ◌+◌, ◌∷◌, [], length}
use Rattle.desk_invariant.specs.declared.board.Slot.TheVariants as slot
use Rattle.publication.specs.Making.{rosters_of}
use Rattle.publication.proofs.Growing.{cores_longer, nothing_more}
use Rattle.publication.proofs.new_desk.all_slots.Goals as goal

pub loop-slots-init : goal.loop-slots-init
loop-slots-init g c =
    let empty = c.in_ok-slots.ensures in
    let n = empty.0 in
    let few = c.requires.0 in
    (omega arith, empty.1, search rules, omega arith, empty.2, λ i l h. absurd (omega arith))

pub loop-slots-preserved : goal.loop-slots-preserved
loop-slots-preserved g c =
    let so_far = c.loop-slots.invariant in
    let pushed = c.push_reserved.ensures in
    let n = pushed.len in
    let room = c.loop-slots-test.true in
    let is = c.len.ensures in
    let few = so_far.3 in
    let same = so_far.2 in
    let count : length c.loop-slots.slots.items + 1 ≡ c.push_reserved.new.self.len = omega arith in (
      omega arith,
      search rules,
      search rules,
      omega arith,
      cores_longer (rosters_of c.args.lists.items) c.args.objects.items c.loop-slots.slots.items
          c.push_reserved.new.self.items (slot.Nothing ∷ []) pushed.items so_far.4,
      λ j l h. nothing_more c.loop-slots.slots.items c.push_reserved.new.self.items
          (length c.args.objects.items) pushed.items (λ x a b. so_far.5 x a (omega arith)) j l (omega arith),
    )

pub returns : goal.returns
returns g c =
    let so_far = c.loop-slots.invariant in
    let full = c.loop-slots-test.false in
    let is = c.len.ensures in
    let top = so_far.0 in
    let same = so_far.2 in
    record { long = omega arith; cores = so_far.4; others = λ j l h. so_far.5 j l (omega arith) }
