-- `check_record`: a refusal is the first of the record's history and certificates, and of a sound record there is
-- none. What was gathered from a sound record is valid (`are_valid`), and `check_all` refuses nothing that is.
use Rattle.std.proofs.Common.{◌≢◌, ℕ, List, Result, Ok, Err, IfErr, sym, subst}
use Rattle.desk_model.specs.World.{AnyEntry, AnyEvent}
use Rattle.events.specs.declared.event.Event.{Event}
use Rattle.certificate.specs.declared.Certificate.{Certificate}
use Rattle.checker.specs.declared.refusal.Refusal.{Refusal}
use Rattle.checker.specs.declared.refusal.Refusal.TheVariants.{NoMemory}
use Rattle.checker.specs.Refusals.{IsFirstRefusal}
use Rattle.recorder.specs.Histories.{AreEventsOf, journals_in, logs_in}
use Rattle.transcript.specs.Accounts.{AreCertificatesOf, IsRecordRefused}
use Rattle.transcript.proofs.Accepting.{are_valid}
use Rattle.transcript.proofs.accounts.check_record.Goals as goal

refused : {A : Type 0} (journals : ℕ → List AnyEvent) (logs : ℕ → List AnyEntry) (es : List Event)
    (cs : List Certificate) → AreEventsOf journals es
    → AreCertificatesOf journals logs cs → (r : Result A Refusal) → IfErr r (IsFirstRefusal es cs)
    → IfErr r (λ e. e ≢ NoMemory → IsRecordRefused journals logs e)
refused journals logs es cs are h (Ok a) i = tt
refused journals logs es cs are h (Err e) i =
    λ _. record { events = es; certificates = cs; are_events = are; are_certificates = h; first = i }

pub returns-clause-accepted : goal.returns-clause-accepted
returns-clause-accepted g c kinds quota s =
    let journals = journals_in g.S.SeqObject.op_in g.S.SeqObject.reply_in c.args.recorded.now in
    let logs = logs_in g.S.SeqObject.op_in g.S.SeqObject.reply_in c.args.recorded.now in
    c.check_all.ensures.exact
    (are_valid kinds quota journals logs s _ c.in-Ok.ensures.history _
    (subst (AreCertificatesOf journals logs) (sym c.deref.ensures.value) c.in-Ok-certificates.ensures))

pub returns-clause-checked : goal.returns-clause-checked
returns-clause-checked g c =
    let journals = journals_in g.S.SeqObject.op_in g.S.SeqObject.reply_in c.args.recorded.now in
    let logs = logs_in g.S.SeqObject.op_in g.S.SeqObject.reply_in c.args.recorded.now in
    refused journals logs _ _ c.in-Ok.ensures.history
    (subst (AreCertificatesOf journals logs) (sym c.deref.ensures.value) c.in-Ok-certificates.ensures)
    c.check_all.result c.check_all.ensures.refused
