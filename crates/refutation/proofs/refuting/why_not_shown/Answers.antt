use Rattle.refutation.proofs.refuting.why_not_shown.Goals as goal

pub returns-in-Search-clause-basis : goal.returns-in-Search-clause-basis
returns-in-Search-clause-basis c e = rw c.in-Search.is (c.why_not_shown_by_search.ensures.shown e)
