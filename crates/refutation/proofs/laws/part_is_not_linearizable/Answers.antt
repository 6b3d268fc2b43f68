use Rattle.refutation.proofs.laws.part_is_not_linearizable.Goals as goal

pub returns : goal.returns
returns c part kinds h none hist kind calls lin =
    let order = c.linearizable_has_orders.ensures kinds h hist lin part.object in
    none order.0 (rw calls at (rw kind at order.1))
