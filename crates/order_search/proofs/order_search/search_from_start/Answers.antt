use Rattle.order_search.proofs.Orders.{places_within, order_found}
use Rattle.order_search.proofs.order_search.search_from_start.Goals as goal

pub order_of-requires : goal.order_of-requires
order_of-requires c =
    let t = c.args.trials.now in
    let w = places_within t c.run.new.self.levels.items (c.in_ok-run.ensures.over c.in-Done.is) in
    rw (c.deref-in-Done.ensures.value, c.deref.ensures.value) w

pub returns-in-Done-clause-found : goal.returns-in-Done-clause-found
returns-in-Done-clause-found c =
    let t = c.args.trials.now in
    order_found t c.run.new.self.levels.items c.in_ok-order_of-in-Done.field-0.items
    (c.in_ok-run.ensures.over c.in-Done.is)
    (rw (c.deref.ensures.value, c.deref-in-Done.ensures.value) at c.in_ok-order_of-in-Done.ensures)
