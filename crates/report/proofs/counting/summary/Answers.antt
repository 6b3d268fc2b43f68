use Rattle.std.proofs.Common.{IfOk, subst}
use Rattle.events.proofs.Splitting.{for_ok}
use Rattle.report.specs.Counts.{uses, AreCountsOf}
use Rattle.report.proofs.Named.{objects_named, objects_once, kinds_once}
use Rattle.report.proofs.counting.summary.Goals as goal
use Rattle.report.proofs.counting.summary.Goals.{After-summary_of}

counts : (c : After-summary_of) → IfOk c.summary_of.result (AreCountsOf c.args.history.now)
counts c = subst (λ es. IfOk c.summary_of.result (AreCountsOf es)) c.events.ensures.events c.summary_of.ensures

pub returns-clause-operations : goal.returns-clause-operations
returns-clause-operations c = for_ok _ _ c.summary_of.result (λ s h. h.operations) (counts c)

pub returns-clause-objects : goal.returns-clause-objects
returns-clause-objects c = for_ok _ _ c.summary_of.result (λ s h. h.objects) (counts c)

pub returns-clause-kinds : goal.returns-clause-kinds
returns-clause-kinds c = for_ok _ _ c.summary_of.result (λ s h. h.kinds) (counts c)

pub returns-clause-named : goal.returns-clause-named
returns-clause-named c = objects_named c.args.history.now

pub returns-clause-once : goal.returns-clause-once
returns-clause-once c = objects_once (uses c.args.history.now)

pub returns-clause-kinds_once : goal.returns-clause-kinds_once
returns-clause-kinds_once c = kinds_once (uses c.args.history.now)
