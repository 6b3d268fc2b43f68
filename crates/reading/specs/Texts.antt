-- What a history's text and a certificates' text denote, and what is wrong with a text that denotes
-- nothing.
use Rattle.std.specs.Prelude.{◌≡◌, ℕ, ◌⊎◌, List, Result, IfOk, IfErr}
use Rattle.edn_reader.specs.Datum.{Datum}
use Rattle.edn_reader.specs.Sound.{IsShort, IsSoundAt, IsUnreadable, SpellsWithFault}
use Rattle.edn_reader.specs.Spells.{Spells}
use Rattle.edn_reader.specs.declared.fault.FaultKind.TheVariants as edn_kind
use Rattle.history.specs.declared.fault.HistoryFaultKind.TheVariants as history_kind
use Rattle.certificate.specs.declared.fault.CertFaultKind.TheVariants as certificate_kind
use Rattle.events.specs.declared.event.Event.{Event}
use Rattle.history.specs.Denotes as history_meaning
use Rattle.history.specs.Faults as history_fault
use Rattle.history.specs.Texts.{IsHistorySound}
use Rattle.certificate.specs.declared.Certificate.{Certificate}
use Rattle.certificate.specs.Denotes as certificate_meaning
use Rattle.certificate.specs.Faults as certificate_fault
use Rattle.model.specs.Linearizable.{IsLinearizable}
use Rattle.model.specs.Orders.{events}
use Rattle.events.specs.Events.{kind_of_object, denoted}
use Rattle.reading.specs.declared.text_failure.Fault.{Fault}
use Rattle.reading.specs.declared.text_failure.Fault.TheVariants.{HistoryText, HistoryMaps}
use Rattle.reading.specs.declared.text_failure.Fault.TheVariants.{CertificateText, CertificateForms}
use Rattle.reading.specs.declared.text_failure.TextFailure.{TextFailure}
use Rattle.reading.specs.declared.text_failure.TextFailure.TheVariants.{Faulty, NoMemory}

-- The text spells forms that denote these client events. It denotes one list of them at most
-- (`one_history`).
pub record DenotesHistory (text : List ℕ) (es : List Event) : Type 0 where
  pub forms : List Datum
  pub spelled : Spells forms text
  pub denoted : history_meaning.Denotes forms es

-- The text spells forms that denote these certificates, which say one thing (`one_list_of_orders`).
pub record DenotesCertificates (text : List ℕ) (cs : List Certificate) : Type 0 where
  pub forms : List Datum
  pub spelled : Spells forms text
  pub denoted : certificate_meaning.Denotes forms cs

-- The text is not too long, and denotes a history.
abbrev pub HasHistory : List ℕ → Type 0
HasHistory h = IsShort h × ((es : List Event) × DenotesHistory h es)

-- The text is not too long, and denotes certificates.
abbrev pub HasCertificates : List ℕ → Type 0
HasCertificates c = IsShort c × ((cs : List Certificate) × DenotesCertificates c cs)

-- the fault is that an allocation failed
abbrev pub IsNoMemory : Fault → Type 0
IsNoMemory (HistoryText e) = e.kind ≡ edn_kind.NoMemory
IsNoMemory (HistoryMaps f) = f.kind ≡ history_kind.NoMemory
IsNoMemory (CertificateText e) = e.kind ≡ edn_kind.NoMemory
IsNoMemory (CertificateForms f) = f.kind ≡ certificate_kind.NoMemory

-- Reading stops by an allocation failure if that is the fault, and not otherwise.
abbrev pub IsTextFailureOf : Fault → TextFailure → Type 0
IsTextFailureOf fault (Faulty f) = (f ≡ fault) × ¬ (IsNoMemory fault)
IsTextFailureOf fault NoMemory = IsNoMemory fault

-- Nothing is wrong with the text of certificates as far as it was looked at: up to a token and with
-- it, or, if it spells forms, up to one of them and with it.
abbrev pub AreCertificatesSound : List ℕ → Type 0
AreCertificatesSound c =
    IsShort c
    × (((place : ℕ) × IsSoundAt place c)
    ⊎ ((ds : List Datum) × Spells ds c × (form : ℕ) × certificate_fault.IsCertSoundAt ds form))

-- what stops the reading of a history's text: it is unreadable, its forms have a fault, or an
-- allocation failed
abbrev pub IsHistoryFault : List ℕ → TextFailure → Type 0
IsHistoryFault h (Faulty (HistoryText e)) = IsUnreadable h e
IsHistoryFault h (Faulty (HistoryMaps f)) = SpellsWithFault history_fault.IsFirstFault h f
IsHistoryFault h (Faulty (CertificateText e)) = ⊥
IsHistoryFault h (Faulty (CertificateForms f)) = ⊥
IsHistoryFault h NoMemory = IsHistorySound h

-- what stops the reading of a text of certificates: it is unreadable, its forms have a fault, or an
-- allocation failed
abbrev pub IsCertificatesFault : List ℕ → TextFailure → Type 0
IsCertificatesFault c (Faulty (HistoryText e)) = ⊥
IsCertificatesFault c (Faulty (HistoryMaps f)) = ⊥
IsCertificatesFault c (Faulty (CertificateText e)) = IsUnreadable c e
IsCertificatesFault c (Faulty (CertificateForms f)) =
    SpellsWithFault certificate_fault.IsFirstFault c f
IsCertificatesFault c NoMemory = AreCertificatesSound c

-- What reading the text of a history gives: the client events that it denotes and no others, or
-- what stops it, which is an allocation failure if it denotes some and is not too long.
pub record IsHistoryRead (h : List ℕ) (r : Result (List Event) TextFailure) : Type 0 where
  pub denotes : IfOk r (DenotesHistory h)
  pub only : IfOk r (λ es. (fs : List Event) → DenotesHistory h fs → fs ≡ es)
  pub short : IfOk r (λ _. IsShort h)
  pub stop : IfErr r (IsHistoryFault h)
  pub accepts : IfErr r (λ s. (es : List Event) → DenotesHistory h es → IsShort h → s ≡ NoMemory)

-- The history that the text denotes is linearizable.
pub record IsLinearizableText (h : List ℕ) : Type 0 where
  pub client_events : List Event
  pub history_text : DenotesHistory h client_events
  pub linearizable : IsLinearizable (kind_of_object client_events) (events (denoted client_events))

-- The history that the text denotes is not linearizable. A text denotes one history at most
-- (`one_history`), so this and `IsLinearizableText` exclude each other.
pub record IsNotLinearizableText (h : List ℕ) : Type 0 where
  pub client_events : List Event
  pub history_text : DenotesHistory h client_events
  pub not_linearizable : IsLinearizable (kind_of_object client_events)
      (events (denoted client_events)) → ⊥
