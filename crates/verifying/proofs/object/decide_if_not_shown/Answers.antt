use Rattle.verifying.proofs.Answered.{has_an_order}
use Rattle.verifying.proofs.object.decide_if_not_shown.Goals as goal

pub returns-in-Possible-2 : goal.returns-in-Possible-2
returns-in-Possible-2 c = λ kind calls note part named why_not.
    has_an_order kind calls c.args.limit c.args.reason.now note part c.in-Possible-2.field-0 named
    (rw c.in-Possible-2.is at why_not)
