-- The output for a record says its history, its certificates and their verdict (`says_of`), and the certificates of a
-- sound record are accepted (`sound_as_it_is`). By what the record denotes.
use Rattle.std.proofs.Common.{◌≡◌, ℕ, List, sym, subst}
use Rattle.model.specs.declared.AnyOp.{AnyOp}
use Rattle.model.specs.declared.AnyReply.{AnyReply}
use Rattle.desk_model.specs.World.{AnyEntry, AnyEvent}
use Rattle.desk_model.specs.Records.{IsSoundRecord}
use Rattle.desk_model.proofs.Entries.{events_as_they_are, entries_as_they_are}
use Rattle.certificate.specs.declared.Certificate.{Certificate}
use Rattle.recorder.specs.Records.{Recorded, journal_at, log_at}
use Rattle.events.specs.declared.event.Event.{Event}
use Rattle.recorder.specs.Histories.{AreEventsOf}
use Rattle.transcript.specs.Accounts.{AreCertificatesOf}
use Rattle.report.specs.declared.verdict.Verdict.{Verdict}
use Rattle.report.specs.declared.verdict.Verdict.TheVariants.{Yes, No, Malformed, NoMemory}
use Rattle.text_check.specs.Verdicts.{SaysOfCertificates}
use Rattle.bench_commands.specs.Runs.{HasSoundRecord, Says, journals_of, logs_of}

-- ---- journals and logs of operations of all kinds are what they stand for

pub sound_as_it_is : (r : Recorded AnyOp AnyReply) (kinds : _) (quota : ℕ)
    → IsSoundRecord kinds quota (journal_at r) (log_at r) → HasSoundRecord r
sound_as_it_is r kinds quota s =
    let journals : journal_at r ≡ journals_of r = λ i c. sym (events_as_they_are (journal_at r c)) i in
    let logs : log_at r ≡ logs_of r = λ i x. sym (entries_as_they_are (log_at r x)) i in (
      kinds,
      quota,
      subst (λ (js : ℕ → List AnyEvent). IsSoundRecord kinds quota js (logs_of r)) journals
          (subst (λ (ls : ℕ → List AnyEntry). IsSoundRecord kinds quota (journal_at r) ls) logs s),
    )

-- ---- the verdict on the certificates of a record

pub says_of : (journals : ℕ → List AnyEvent) (logs : ℕ → List AnyEntry) (es : List Event) (cs : List Certificate)
    → AreEventsOf journals es → AreCertificatesOf journals logs cs → (v : Verdict) → SaysOfCertificates es cs v
    → Says journals logs v
says_of journals logs es cs are_events are_certificates (Yes s) k = (
  record {
    events = es;
    certificates = cs;
    are_events = are_events;
    are_certificates = are_certificates;
    valid = k.0;
  },
  (es, are_events, k.1),
)
says_of journals logs es cs are_events are_certificates (No r) k =
    record { events = es; certificates = cs; are_events = are_events; are_certificates = are_certificates; first = k.0 }
says_of journals logs es cs are_events are_certificates (Malformed f) k = k
says_of journals logs es cs are_events are_certificates NoMemory k = tt
