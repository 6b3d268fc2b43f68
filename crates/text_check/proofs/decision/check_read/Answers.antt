use Rattle.std.proofs.Common.{sym, subst}
use Rattle.text_check.specs.Texts.{DenoteOnly}
use Rattle.text_check.specs.Verdicts.{AreBothRead, IsJudgement}
use Rattle.text_check.proofs.Checking.{holds_checked, holds_stopped}
use Rattle.text_check.proofs.decision.check_read.Goals as goal

pub returns-in-Ok : goal.returns-in-Ok
returns-in-Ok g c = λ h read.
    let k = c.args.certificates.now in
    let both = subst (AreBothRead (λ v. v.items) h k) c.in-Ok.is (c.with_certificates.ensures.read h read) in
    holds_checked h k c.in-Ok.client_events c.deref.result.now c.check-checked.result c.verdict_on_check.result
    c.valid_certificates_suffice.ensures
    (subst (DenoteOnly h k c.in-Ok.client_events) (sym c.deref.ensures.value) both.texts) c.check-checked.ensures
    c.verdict_on_check.ensures

pub returns-in-Err : goal.returns-in-Err
returns-in-Err g c = λ h read.
    let k = c.args.certificates.now in
    let both = subst (AreBothRead (λ v. v.items) h k) c.in-Err.is (c.with_certificates.ensures.read h read) in
    subst (IsJudgement h k) (sym c.from.ensures) (holds_stopped h k c.in-Err.stop both.stop both.accepts)
