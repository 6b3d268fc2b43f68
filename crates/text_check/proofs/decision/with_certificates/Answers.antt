use Rattle.std.proofs.Common.{subst}
use Rattle.std.proofs.lemmas.Result.{err_from_is_err_and}
use Rattle.reading.specs.Texts.{IsHistoryRead}
use Rattle.text_check.proofs.Checking.{both_read, stopped_certificates, stopped_history}
use Rattle.text_check.proofs.decision.with_certificates.Goals as goal

pub returns-in_err-history-clause-read : goal.returns-in_err-history-clause-read
returns-in_err-history-clause-read c = λ h read.
    let p = err_from_is_err_and c.from_residual.result c.from_residual.ensures.1 in
    rw (p.1, p.2) (stopped_history (λ v. v.items) h c.args.certificates.now c.in_err-history.field-0.0
    (subst (IsHistoryRead h) c.in_err-history.was read))

pub returns-in_err-orders-clause-read : goal.returns-in_err-orders-clause-read
returns-in_err-orders-clause-read c = λ h read.
    let p = err_from_is_err_and c.from_residual-in_err-orders.result c.from_residual-in_err-orders.ensures.1 in
    rw (p.1, p.2) (stopped_certificates (λ v. v.items) h c.args.certificates.now _ c.in_err-orders.field-0.0
    (subst (IsHistoryRead h) c.in_ok-history.was read) c.in_err-orders.ensures.stop c.in_err-orders.ensures.accepts)

pub returns-clause-read : goal.returns-clause-read
returns-clause-read c = λ h read.
    let k = c.in_ok-orders.ensures in
    both_read (λ v. v.items) h c.args.certificates.now _ c.in_ok-orders.orders
    (subst (IsHistoryRead h) c.in_ok-history.was read) k.short k.denotes k.only
