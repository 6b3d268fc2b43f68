use Rattle.std.proofs.Common.{inr, subst, sym}
use Rattle.std.proofs.lemmas.Result.{IfOk-weaker}
use Rattle.reading.specs.Texts.{IsHistoryRead}
use Rattle.history_commands.specs.Searches.{IsHistoryUnread}
use Rattle.history_commands.proofs.UnreadTexts.{stops}
use Rattle.history_commands.proofs.Verified.{is_verification, on_text, unread}
use Rattle.history_commands.proofs.verification.verify_history.Goals as goal

pub returns-in-Ok : goal.returns-in-Ok
returns-in-Ok c h read =
    let e = c.args.evidence.now in
    let r = subst (IsHistoryRead h) c.in-Ok.is read in
    IfOk-weaker c.verify_by_text.result _ _ (λ o m. is_verification h e c.args.steps o.status o.text.items
    (on_text h e c.args.steps c.in-Ok.history o.status o.text.items r.short r.denotes m)) c.verify_by_text.ensures

pub returns-in-Err : goal.returns-in-Err
returns-in-Err c h read =
    let e = c.args.evidence.now in
    let r = subst (IsHistoryRead h) c.in-Err.is read in
    let v = c.from.result in
    let is_unread = unread h e c.args.steps v
    (subst (IsHistoryUnread h) (sym c.from.ensures) (stops h c.in-Err.stop r.stop)) in
    IfOk-weaker c.verdict_output.result _ _ (λ o k. is_verification h e c.args.steps o.status o.text.items
    (inr (v, is_unread, k.0, k.1))) c.verdict_output.ensures
