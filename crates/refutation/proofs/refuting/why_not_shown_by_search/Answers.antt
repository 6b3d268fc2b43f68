use Rattle.refutation.proofs.refuting.why_not_shown_by_search.Goals as goal

pub returns-in-Impossible-clause-shown : goal.returns-in-Impossible-clause-shown
returns-in-Impossible-clause-shown c e = c.find_order_of_any_size-outcome.ensures.impossible c.in-Impossible.is
