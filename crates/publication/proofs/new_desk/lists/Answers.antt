use Rattle.std.proofs.Common.{arith, ◌∷◌, ◌++◌, [], sym, ap, ◌∙◌}
use Rattle.std.proofs.lemmas.List.{map-append}
use Rattle.publication_list.specs.Calls.{WalkerSeen}
use Rattle.publication.specs.Making.{rosters_of}
use Rattle.publication.proofs.Dealing.{room_left, one_dealt}
use Rattle.publication.proofs.new_desk.lists.Goals as goal

pub new_with_places-requires-clause-room : goal.new_with_places-requires-clause-room
new_with_places-requires-clause-room c =
    let low = c.loop-alloc-test.true in
    let n = c.len.ensures in
    let long = c.loop-alloc.rosters.ok.0 in
    room_left _ _ c.loop-alloc.owners.items (omega arith) c.loop-alloc.invariant.5

pub loop-alloc-preserved : goal.loop-alloc-preserved
loop-alloc-preserved c =
    let so_far = c.loop-alloc.invariant in
    let owners = c.push_reserved.ensures in
    let walkers = c.push_reserved-in-loop-alloc.ensures in
    let low = c.loop-alloc-test.true in
    let n = c.len.ensures in
    let len = owners.len in
    let cap = owners.capacity in
    let len' = walkers.len in
    let cap' = walkers.capacity in
    let room = so_far.1 in
    let room' = so_far.3 in
    let both = so_far.2 in
    let made = c.in_ok-roster.ensures in (
      omega arith,
      omega arith,
      omega arith,
      omega arith,
      ap rosters_of walkers.items ∙ (map-append (λ (w : WalkerSeen). w.roster) c.loop-alloc.walkers.items
          (c.in_ok-roster.walker ∷ []) ∙ ((λ j. so_far.4 j ++ (made.walker j).roster ∷ []) ∙ sym owners.items)),
      one_dealt c.in_ok-roster.roster _ _ _ _ _ owners.items so_far.5 made.grown,
    )
