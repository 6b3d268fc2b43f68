-- The reading of a history or of certificates stops at the first fault of the text, or at an allocation failure
-- (`stopped_maps`, `stops_for_memory`). By cases on the fault.
use Rattle.std.proofs.Common.{◌≡◌, ℕ, ◌<◌, List, length, Option, Some, None, IfSome, inr, refl, subst, sym, arith}
use Rattle.edn_reader.specs.Datum.{Datum, max_length}
use Rattle.edn_reader.specs.Sound.{IsShort}
use Rattle.edn_reader.proofs.Progress.{one_reading_of}
use Rattle.events.specs.declared.event.Event.{Event}
use Rattle.history.specs.Denotes.{Denotes}
use Rattle.history.specs.Texts.{IsHistoryTextFault}
use Rattle.history.specs.declared.fault.HistoryFault.{HistoryFault}
use Rattle.history.specs.declared.fault.TextFault.TheVariants.{Maps}
use Rattle.history.proofs.Reading.{fault_refutes}
use Rattle.reading.specs.declared.text_failure.Fault.{Fault}
use Rattle.reading.specs.declared.text_failure.Fault.TheVariants.{HistoryText, HistoryMaps, CertificateText}
use Rattle.reading.specs.declared.text_failure.Fault.TheVariants.{CertificateForms}
use Rattle.reading.specs.declared.text_failure.TextFailure.{TextFailure}
use Rattle.reading.specs.declared.text_failure.TextFailure.TheVariants as stop
use Rattle.reading.specs.declared.text_failure.TextFailure.TheVariants.{Faulty}
use Rattle.reading.specs.Texts.{DenotesHistory, DenotesCertificates, IsTextFailureOf, IsHistoryFault}
use Rattle.reading.specs.Texts.{IsCertificatesFault}
use Rattle.certificate.specs.declared.Certificate.{Certificate}
use Rattle.certificate.specs.declared.fault.CertFault.{CertFault}
use Rattle.certificate.specs.declared.fault.CertTextFault.TheVariants.{Forms}
use Rattle.certificate.specs.Denotes as certificate_meaning
use Rattle.certificate.specs.Texts as certificate_texts
use Rattle.certificate.proofs.Reading.{not_denoted}

pub stopped_maps : (h : List ℕ) (f : HistoryFault) (s : TextFailure) → IsHistoryTextFault h (Maps f)
    → IsTextFailureOf (HistoryMaps f) s → IsHistoryFault h s
stopped_maps h f (Faulty g) (short, ds, spells, found) k = subst (λ (x : Fault). IsHistoryFault h (Faulty x))
    (sym k.0) (short, ds, spells, found.0 k.1)
stopped_maps h f stop.NoMemory (short, ds, spells, found) k = let a = found.1 k in
    (short, inr (ds, spells, f.map, a.0, a.1))

-- a text that denotes a history stops it by an allocation failure alone
pub stops_for_memory : (h : List ℕ) (s : TextFailure) (es : List Event) → IsHistoryFault h s → DenotesHistory h es
    → IsShort h → s ≡ stop.NoMemory
stops_for_memory h stop.NoMemory es f d short = refl
stops_for_memory h (Faulty (HistoryText e)) es f d short =
    absurd (f.nothing (λ t. (let long : max_length < length h = f.too_long.0 t in omega
    (arith, long, short))) d.forms d.spelled)
stops_for_memory h (Faulty (HistoryMaps g)) es (a, ds, spells, first) d short =
    absurd (fault_refutes ds g es first (subst (λ (x : List Datum). Denotes x es)
    (one_reading_of d.forms ds h d.spelled spells) d.denoted))
stops_for_memory h (Faulty (CertificateText e)) es f d short = absurd f
stops_for_memory h (Faulty (CertificateForms g)) es f d short = absurd f

-- A text of certificates with a faulty form has the failure that belongs to this fault.
pub stopped_forms : (c : List ℕ) (f : CertFault) (s : TextFailure)
    → certificate_texts.IsCertTextFault c (Forms f)
    → IsTextFailureOf (CertificateForms f) s → IsCertificatesFault c s
stopped_forms c f (Faulty g) (short, ds, spells, found) k = subst (λ (x : Fault). IsCertificatesFault c (Faulty x))
    (sym k.0) (short, ds, spells, found.0 k.1)
stopped_forms c f stop.NoMemory (short, ds, spells, found) k = (short, inr (ds, spells, f.form, found.1 k))

pub certificates_for_memory : (c : List ℕ) (s : TextFailure) (cs : List Certificate) → IsCertificatesFault c s
    → DenotesCertificates c cs → IsShort c → s ≡ stop.NoMemory
certificates_for_memory c stop.NoMemory cs f d short = refl
certificates_for_memory c (Faulty (HistoryText e)) cs f d short = absurd f
certificates_for_memory c (Faulty (HistoryMaps g)) cs f d short = absurd f
certificates_for_memory c (Faulty (CertificateText e)) cs f d short =
    absurd (f.nothing (λ t. (let long : max_length < length c = f.too_long.0 t in omega
    (arith, long, short))) d.forms d.spelled)
certificates_for_memory c (Faulty (CertificateForms g)) cs (a, ds, spells, first) d short =
    absurd (not_denoted ds g first cs (subst (λ (x : List Datum). certificate_meaning.Denotes x cs)
    (one_reading_of d.forms ds c d.spelled spells) d.denoted))

pub where_some : {T : Type 0} (o : Option T) (P Q : T → Type 0) → ((t : T) → P t → Q t) → IfSome o P → IfSome o Q
where_some None P Q f h = tt
where_some (Some t) P Q f h = f t h
