use Rattle.std.proofs.Common.{sym, subst}
use Rattle.std.specs.Prelude.{IfOk}
use Rattle.report.specs.Counts.{AreCountsOf}
use Rattle.report.specs.Verdicts.{IsVerdictOnCheck}
use Rattle.report.proofs.checked.verdict_on_check.Goals as goal

pub returns-in-Ok : goal.returns-in-Ok
returns-in-Ok c =
    let es = c.args.history.now in
    subst (λ r. IsVerdictOnCheck es r c.accepted.result) (sym c.in-Ok.is)
    (c.accepted.ensures es (subst (λ xs. IfOk c.summary_of.result
    (AreCountsOf xs)) c.events.ensures.events c.summary_of.ensures))

pub returns-in-Err : goal.returns-in-Err
returns-in-Err c = subst (λ r. IsVerdictOnCheck c.args.history.now r c.refused.result) (sym c.in-Err.is)
    (c.refused.ensures c.args.history.now)
