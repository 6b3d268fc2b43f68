-- `check_alone`: the verdict holds of the two texts, and a yes means that the history is linearizable. Where both
-- are read the check decides, by locality (`holds_checked`); else the stop does (`holds_stopped`).
use Rattle.std.proofs.Common.{sym, subst}
use Rattle.text_check.specs.Texts.{DenoteOnly}
use Rattle.text_check.specs.Verdicts.{AreBothRead, IsJudgement}
use Rattle.text_check.proofs.Checking.{holds_checked, holds_stopped}
use Rattle.text_check.proofs.decision.check_alone.Goals as goal
use Rattle.text_check.proofs.decision.check_alone.Goals.{After-with_certificates}

read : (c : After-with_certificates) → AreBothRead (λ v. v.items) c.args.history.now c.args.certificates.now
    c.with_certificates.result
read c =
    let h = c.history_of_text.ensures in
    c.with_certificates.ensures.read c.args.history.now
    (record { denotes = h.denotes; only = h.only; short = h.short; stop = h.stop; accepts = h.accepts })

pub returns-in-Ok : goal.returns-in-Ok
returns-in-Ok c =
    let h = c.args.history.now in
    let k = c.args.certificates.now in
    let both = subst (AreBothRead (λ v. v.items) h k) c.in-Ok.is
    (read (goal.at.returns-in-Ok c).After-with_certificates) in
    let holds = holds_checked h k c.in-Ok.client_events c.deref.result.now c.check_all-checked.result
    c.verdict_on_check.result
    c.valid_certificates_suffice.ensures
    (subst (DenoteOnly h k c.in-Ok.client_events)
    (sym c.deref.ensures.value) both.texts) c.check_all-checked.ensures.answer
    c.verdict_on_check.ensures in
    record { linearizable = holds.linearizable; holds = holds }

pub returns-in-Err : goal.returns-in-Err
returns-in-Err c =
    let h = c.args.history.now in
    let k = c.args.certificates.now in
    let both = subst (AreBothRead (λ v. v.items) h k) c.in-Err.is
    (read (goal.at.returns-in-Err c).After-with_certificates) in
    let holds = subst (IsJudgement h k) (sym c.from.ensures) (holds_stopped h k c.in-Err.stop both.stop both.accepts) in
    record { linearizable = holds.linearizable; holds = holds }
