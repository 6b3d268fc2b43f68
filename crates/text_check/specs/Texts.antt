-- What is said of a history's text and a certificates' text together.
use Rattle.std.specs.Prelude.{◌≡◌, ◌≢◌, ℕ, ◌⊎◌, List, map}
use Rattle.edn_reader.specs.Sound.{IsShort, IsUnreadable, SpellsWithFault}
use Rattle.events.specs.declared.event.Event.{Event}
use Rattle.history.specs.Faults as history_fault
use Rattle.history.specs.Texts.{IsHistorySound}
use Rattle.certificate.specs.declared.Certificate.{Certificate}
use Rattle.certificate.specs.Denotes as certificate_meaning
use Rattle.certificate.specs.Faults as certificate_fault
use Rattle.checker.specs.Refusals.{AreValid, IsFirstRefusal}
use Rattle.checker.specs.declared.refusal.Refusal.{Refusal}
use Rattle.checker.specs.declared.refusal.Refusal.TheVariants as refusal
use Rattle.reading.specs.declared.text_failure.Fault.{Fault}
use Rattle.reading.specs.declared.text_failure.Fault.TheVariants.{HistoryText, HistoryMaps}
use Rattle.reading.specs.declared.text_failure.Fault.TheVariants.{CertificateText, CertificateForms}
use Rattle.reading.specs.Texts.{DenotesHistory, DenotesCertificates, HasHistory, HasCertificates}
use Rattle.reading.specs.Texts.{AreCertificatesSound}

-- The texts denote these client events and certificates, and nothing that says something else.
-- Neither is too long to be read.
pub record DenoteOnly (h c : List ℕ) (es : List Event) (cs : List Certificate) : Type 0 where
  pub history_short : IsShort h
  pub certificates_short : IsShort c
  pub history_text : DenotesHistory h es
  pub certificate_text : DenotesCertificates c cs
  pub no_other_events : (fs : List Event) → DenotesHistory h fs → fs ≡ es
  pub no_other_orders : (ds : List Certificate) → DenotesCertificates c ds
      → map certificate_meaning.reading_of ds ≡ map certificate_meaning.reading_of cs

-- The fault of the first text that has one, the history being looked at first: the text is too
-- long, spells nothing, or spells forms of which this is the first fault.
abbrev pub IsFirstFault : List ℕ → List ℕ → Fault → Type 0
IsFirstFault h c (HistoryText e) = IsUnreadable h e
IsFirstFault h c (HistoryMaps f) = SpellsWithFault history_fault.IsFirstFault h f
IsFirstFault h c (CertificateText e) = HasHistory h × IsUnreadable c e
IsFirstFault h c (CertificateForms f) =
    HasHistory h × SpellsWithFault certificate_fault.IsFirstFault c f

-- Nothing is wrong with the texts as far as they were looked at, the history first: with the
-- history's, or, if it denotes a history, with the certificates'; or both denote.
abbrev pub AreSoundSoFar : List ℕ → List ℕ → Type 0
AreSoundSoFar h c =
    IsHistorySound h
    ⊎ (HasHistory h × (AreCertificatesSound c ⊎ HasCertificates c))

-- The texts denote a history, and certificates that are valid: one for each object that the history
-- names, none besides. Neither is too long to be read.
pub record AreValidTexts (h c : List ℕ) : Type 0 where
  pub client_events : List Event
  pub certificates : List Certificate
  pub history_short : IsShort h
  pub certificates_short : IsShort c
  pub history_text : DenotesHistory h client_events
  pub certificate_text : DenotesCertificates c certificates
  pub valid : AreValid client_events certificates

-- The texts denote a history and certificates, of which this is the first refusal. Neither is too
-- long to be read.
pub record IsFirstRefusalText (h c : List ℕ) (r : Refusal) : Type 0 where
  pub client_events : List Event
  pub certificates : List Certificate
  pub history_short : IsShort h
  pub certificates_short : IsShort c
  pub history_text : DenotesHistory h client_events
  pub certificate_text : DenotesCertificates c certificates
  pub first : IsFirstRefusal client_events certificates r
  pub not_memory : r ≢ refusal.NoMemory
