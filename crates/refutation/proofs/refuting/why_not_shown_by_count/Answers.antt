use Rattle.refutation.proofs.refuting.why_not_shown_by_count.Goals as goal

pub returns-then-is_overdrawn-clause-shown : goal.returns-then-is_overdrawn-clause-shown
returns-then-is_overdrawn-clause-shown c e = c.is_overdrawn.ensures.shows c.if-is_overdrawn.true
