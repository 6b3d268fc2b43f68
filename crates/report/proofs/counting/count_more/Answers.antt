use Rattle.std.proofs.Common.{sym, ◌∙◌}
use Rattle.report.proofs.Uses.{one_of_kind, one_of_another}
use Rattle.report.proofs.counting.count_more.Goals as goal

pub returns-then-is_of-clause-seen : goal.returns-then-is_of-clause-seen
returns-then-is_of-clause-seen c = λ n all h.
    one_of_kind c.args.kind all c.args.invoked.now _ _ n _
    (sym c.is_of.ensures ∙ c.if-is_of.true) c.in_ok-more.ensures.among c.in_ok-more.ensures.more h

pub returns-clause-seen : goal.returns-clause-seen
returns-clause-seen c = λ n all h. one_of_another c.args.kind all c.args.invoked.now _ n
    (sym c.is_of.ensures ∙ c.if-is_of.false) h
