-- A verdict on certificates holds of the texts that denote them and their history; and if a text could not be read, the
-- verdict says so. By cases on the verdict and on the failure.
use Rattle.std.proofs.Common.{◌≡◌, List, ℕ, map, inl, inr, ap, sym, subst}
use Rattle.edn_reader.specs.Sound.{IsShort}
use Rattle.std.specs.Prelude.{Result, Ok, Err}
use Rattle.events.specs.declared.event.Event.{Event}
use Rattle.certificate.specs.declared.Certificate.{Certificate}
use Rattle.certificate.specs.Denotes.{reading_of}
use Rattle.checker.specs.Refusals.{AreValid, IsCheckAnswer}
use Rattle.checker.specs.declared.refusal.Refusal.{Refusal}
use Rattle.report.specs.Verdicts.{IsVerdictOnCheck}
use Rattle.reading.specs.declared.text_failure.Fault.TheVariants.{HistoryText, HistoryMaps, CertificateText}
use Rattle.reading.specs.declared.text_failure.Fault.TheVariants.{CertificateForms}
use Rattle.report.specs.declared.verdict.Verdict.{Verdict}
use Rattle.report.specs.declared.verdict.Verdict.TheVariants.{Yes, No, Malformed, NoMemory}
use Rattle.reading.specs.declared.text_failure.TextFailure.{TextFailure}
use Rattle.reading.specs.declared.text_failure.TextFailure.TheVariants as stop
use Rattle.reading.specs.declared.text_failure.TextFailure.TheVariants.{Faulty}
use Rattle.text_check.specs.Texts.{AreValidTexts, DenoteOnly}
use Rattle.reading.specs.Texts.{DenotesHistory, DenotesCertificates, HasHistory}
use Rattle.reading.specs.Texts.{IsCertificatesFault, IsHistoryFault, IsHistoryRead, IsLinearizableText}
use Rattle.report.specs.Verdicts.{verdict_of}
use Rattle.text_check.specs.Verdicts.{AreBothRead, IsJudgement, IsYesUnlessMemory, SaysOfTexts, SaysOfCertificates}
use Rattle.text_check.specs.Verdicts.{OnYes}
use Rattle.text_check.proofs.Accepting.{same_valid}
use Rattle.text_check.proofs.Naming.{where_ok}
use Rattle.text_check.proofs.Verdicts.{judges_by, on_yes, yes_unless_memory}

module _ (h c : List ℕ) (es : List Event) (cs : List Certificate) (t : DenoteOnly h c es cs) where
  pub judged : (v : Verdict) → SaysOfCertificates es cs v → SaysOfTexts h c v
  judged (Yes s) k = (
    record {
      client_events = es;
      certificates = cs;
      history_short = t.history_short;
      certificates_short = t.certificates_short;
      history_text =
          t.history_text;
      certificate_text = t.certificate_text;
      valid = k.0;
    },
    k.1,
  )
  judged (No r) k = record {
    client_events = es;
    certificates = cs;
    history_short = t.history_short;
    certificates_short = t.certificates_short;
    history_text = t.history_text;
    certificate_text = t.certificate_text;
    first = k.0;
    not_memory = k.1;
  }
  judged (Malformed f) k = absurd k
  judged NoMemory k = inr (
    (t.history_short, (es, t.history_text)),
    inr (t.certificates_short, (cs, t.certificate_text)),
  )

  -- texts that denote valid certificates denote these
  pub valid_here : AreValidTexts h c → AreValid es cs
  valid_here v = same_valid es v.certificates cs (t.no_other_orders v.certificates v.certificate_text)
      (subst (λ fs. AreValid fs v.certificates) (t.no_other_events v.client_events v.history_text) v.valid)

-- locality for a text, as the law says it
abbrev pub ValidSuffice : Type 0
ValidSuffice = (text : List ℕ) (es : List Event) (cs : List Certificate) → DenotesHistory text es → AreValid es cs
    → IsLinearizableText text

-- the certificates were checked
pub holds_checked : (h c : List ℕ) (es : List Event) (cs : List Certificate) (checked : Result (Unit {0}) Refusal)
    (v : Verdict) → ValidSuffice
    → DenoteOnly h c es cs → IsCheckAnswer es cs checked → IsVerdictOnCheck es checked v → IsJudgement h c v
holds_checked h c es cs checked v suffice t answer is = record {
  linearizable = on_yes es (IsLinearizableText h) checked v is
      (where_ok checked answer.valid (suffice h es cs t.history_text));
  judges = judged h c es cs t v (judges_by es cs checked v is answer.valid answer.refused);
  accepts = λ both. yes_unless_memory es checked v is (answer.exact (valid_here h c es cs t both));
}

-- a text could not be read
pub holds_stopped : (h c : List ℕ) (s : TextFailure) → SaysOfTexts h c (verdict_of s)
    → (AreValidTexts h c → s ≡ stop.NoMemory) → IsJudgement h c (verdict_of s)
holds_stopped h c s judges accepts = record {
  linearizable = no_yes s;
  judges = judges;
  accepts = λ v. subst IsYesUnlessMemory (ap verdict_of (sym (accepts v))) tt;
}
  where
    no_yes : (r : TextFailure) → OnYes (verdict_of r) (IsLinearizableText h)
    no_yes (Faulty g) = tt
    no_yes stop.NoMemory = tt

-- ---- what was read of both texts

pub stopped_history : {V : Type 0} (items : V → List Certificate) (h c : List ℕ) (s : TextFailure)
    → IsHistoryRead h (Err s) → AreBothRead items h c (Err s)
stopped_history items h c s r = record
    { texts = tt; stop = judges s r.stop; accepts = λ v. r.accepts v.client_events v.history_text v.history_short }
  where
    judges : (t : TextFailure) → IsHistoryFault h t → SaysOfTexts h c (verdict_of t)
    judges (Faulty (HistoryText e)) f = f
    judges (Faulty (HistoryMaps e)) f = f
    judges (Faulty (CertificateText e)) f = absurd f
    judges (Faulty (CertificateForms e)) f = absurd f
    judges stop.NoMemory f = inl f

pub stopped_certificates : {V : Type 0} (items : V → List Certificate) (h c : List ℕ) (es : List Event)
    (s : TextFailure) → IsHistoryRead h (Ok es) → IsCertificatesFault c s
    → ((cs : List Certificate) → DenotesCertificates c cs → IsShort c → s ≡ stop.NoMemory)
    → AreBothRead items h c (Err s)
stopped_certificates items h c es s r fault accepts = record {
  texts = tt;
  stop = judges s fault;
  accepts = λ v. accepts v.certificates v.certificate_text v.certificates_short;
}
  where
    has : HasHistory h
    has = (r.short, (es, r.denotes))

    judges : (t : TextFailure) → IsCertificatesFault c t → SaysOfTexts h c (verdict_of t)
    judges (Faulty (HistoryText e)) f = absurd f
    judges (Faulty (HistoryMaps e)) f = absurd f
    judges (Faulty (CertificateText e)) f = (has, f)
    judges (Faulty (CertificateForms e)) f = (has, f)
    judges stop.NoMemory f = inr (has, inl f)

pub both_read : {V : Type 0} (items : V → List Certificate) (h c : List ℕ) (es : List Event) (v : V)
    → IsHistoryRead h (Ok es) → IsShort c → DenotesCertificates c (items v)
    → ((ds : List Certificate) → DenotesCertificates c ds → map reading_of ds ≡ map reading_of (items v))
    → AreBothRead items h c (Ok (es, v))
both_read items h c es v r short denotes only = record {
  texts = record {
    history_short = r.short;
    certificates_short = short;
    history_text = r.denotes;
    certificate_text = denotes;
    no_other_events = r.only;
    no_other_orders = only;
  };
  stop = tt;
  accepts = tt;
}
