use Rattle.std.proofs.Common.{arith, ◌∙◌}
use Rattle.publication_list.proofs.PlaceSteps.{look_allowed, look_found_asleep, wake_allowed, wake_leaves_awake}
use Rattle.publication_list.proofs.place.wake.Goals as goal

pub load-requires : goal.load-requires
load-requires c =
    let t = c.requires.table in
    let low = c.requires.seat.0 in (t.0, omega arith, look_allowed _ _ _ _ _ c.requires.seat)

pub store-requires : goal.store-requires
store-requires c =
    let t = c.requires.table in
    let low = c.requires.seat.0 in (
      c.load.ensures.0 ∙ t.0,
      omega arith,
      wake_allowed _ _ _ _ _ (look_found_asleep _ _ _ _ _ c.requires.seat c.load.ensures.2 c.if-load-ne0.false),
    )

pub returns-clause-seat : goal.returns-clause-seat
returns-clause-seat c =
    wake_leaves_awake _ _ _ _ c.requires.seat.0
    (look_found_asleep _ _ _ _ _ c.requires.seat c.load.ensures.2 c.if-load-ne0.false) c.store.ensures.2
