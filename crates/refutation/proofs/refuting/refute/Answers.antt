use Rattle.refutation.proofs.refuting.refute.Goals as goal

pub returns-in-None-clause-impossible : goal.returns-in-None-clause-impossible
returns-in-None-clause-impossible c e =
    let part = rw c.in-Some.is at c.in_ok-part.ensures.part in
    part.shows (c.why_not_shown.ensures.shown c.in-None.is)

pub returns-in-None-clause-shown : goal.returns-in-None-clause-shown
returns-in-None-clause-shown c = (
  c.why_not_shown.ensures.basis c.in-None.is,
  c.why_not_shown.ensures.shown
      c.in-None.is,
)
