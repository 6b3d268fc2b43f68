use Rattle.std.proofs.Common.{inl, inr, subst, sym}
use Rattle.std.proofs.lemmas.Result.{IfOk-weaker}
use Rattle.reading.specs.Texts.{IsHistoryRead}
use Rattle.history_commands.specs.Searches.{IsHistoryUnread}
use Rattle.history_commands.proofs.Meanings.{is_search}
use Rattle.history_commands.proofs.UnreadTexts.{stops}
use Rattle.history_commands.proofs.searching.search_history.Goals as goal

pub returns-in-Ok : goal.returns-in-Ok
returns-in-Ok c h read =
    let r = subst (IsHistoryRead h) c.in-Ok.is read in
    IfOk-weaker c.search_objects.result _ _
    (λ o m. is_search c.valid_certificates_suffice.ensures h c.args.steps o.status o.text.items
    (inl (r.short, c.in-Ok.history, r.denotes, m))) c.search_objects.ensures

pub returns-in-Err : goal.returns-in-Err
returns-in-Err c h read =
    let r = subst (IsHistoryRead h) c.in-Err.is read in
    let v = c.from.result in
    let unread = subst (IsHistoryUnread h) (sym c.from.ensures) (stops h c.in-Err.stop r.stop) in
    IfOk-weaker c.verdict_output.result _ _
    (λ o k. is_search c.valid_certificates_suffice.ensures h c.args.steps o.status o.text.items
    (inr (v, unread, k.0, k.1))) c.verdict_output.ensures
