-- What can be wrong with the forms of a text of certificates, and which fault of it is the first.
use Rattle.std.specs.Prelude.{◌≡◌, ℕ, List, ◌∷◌, ◌++◌, length, Some, None, Contains}
use Rattle.edn_reader.specs.Datum.{Datum}
use Rattle.edn.specs.FirstFaults.{AreFaultless, IsFirstFaultBy}
use Rattle.certificate.specs.Denotes.{Reading, certificate_of}
use Rattle.certificate.specs.declared.fault.CertFaultKind.{CertFaultKind}
use Rattle.certificate.specs.declared.fault.CertFaultKind.TheVariants.{NotACertificate}
use Rattle.certificate.specs.declared.fault.CertFaultKind.TheVariants.{TwoForOneObject, NoMemory}
use Rattle.certificate.specs.declared.fault.CertFault.{CertFault}

-- the number that is printed after the letter K
abbrev pub cert_fault_number : CertFaultKind → ℕ
cert_fault_number NotACertificate = 1
cert_fault_number TwoForOneObject = 2
cert_fault_number NoMemory = 3

-- one of the earlier forms is a certificate of the same object
pub record IsSecond (earlier : List Datum) (d : Datum) : Type 0 where
  pub own : Reading
  pub first : Datum
  pub first_own : Reading
  pub is_own : certificate_of d ≡ Some own
  pub stands : Contains earlier first
  pub is_first_own : certificate_of first ≡ Some first_own
  pub same_object : first_own.object ≡ own.object

-- what is wrong with a form, judged from it and the forms before it
abbrev pub IsCertFault : List Datum → Datum → CertFaultKind → Type 0
IsCertFault earlier d NotACertificate = certificate_of d ≡ None
IsCertFault earlier d TwoForOneObject = IsSecond earlier d
IsCertFault earlier d NoMemory = ⊥

-- no form is faulty
abbrev pub HasNoCertFault : List Datum → Type 0
HasNoCertFault ds = AreFaultless IsCertFault ds

-- the first fault: that of the first faulty form. A form has one fault at most.
abbrev pub IsFirstFault : List Datum → CertFault → Type 0
IsFirstFault ds fault = IsFirstFaultBy IsCertFault cert_fault_number ds fault.form fault.kind

-- nothing is wrong up to the form at this place, nor with it
pub record IsCertSoundAt (ds : List Datum) (place : ℕ) : Type 0 where
  pub earlier : List Datum
  pub form : Datum
  pub later : List Datum
  pub split : ds ≡ earlier ++ form ∷ later
  pub stands_at : length earlier ≡ place
  pub faultless : HasNoCertFault earlier
  pub none : (kind : CertFaultKind) → IsCertFault earlier form kind → ⊥
