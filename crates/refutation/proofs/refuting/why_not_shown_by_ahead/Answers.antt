use Rattle.refutation.proofs.refuting.why_not_shown_by_ahead.Goals as goal

pub returns-then-is_blocked-clause-shown : goal.returns-then-is_blocked-clause-shown
returns-then-is_blocked-clause-shown c e = c.is_blocked.ensures.shows c.if-is_blocked.true
