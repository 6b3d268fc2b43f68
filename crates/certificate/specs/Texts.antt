-- What is wrong with a text of certificates, and how far it is read.
use Rattle.std.specs.Prelude.{◌≡◌, ◌≢◌, ℕ, Bool, List, Option, Some, None}
use Rattle.edn_reader.specs.Datum.{Datum}
use Rattle.edn_reader.specs.Sound.{IsReadingFault, SpellsWithFault}
use Rattle.certificate.specs.declared.Certificate.{Certificate}
use Rattle.certificate.specs.declared.fault.CertFault.{CertFault}
use Rattle.certificate.specs.declared.fault.CertFaultKind.TheVariants.{NoMemory}
use Rattle.certificate.specs.declared.fault.CertTextFault.{CertTextFault}
use Rattle.certificate.specs.declared.fault.CertTextFault.TheVariants.{Text, Forms}
use Rattle.certificate.specs.declared.reader.Reading.{Reading}
use Rattle.certificate.specs.Faults.{IsFirstFault, IsCertSoundAt}
use Rattle.certificate.specs.Inside.{AreCertificatesRead, has}

-- The first fault of the forms; or an allocation failed for one of them, and up to it and with it
-- there is none.
abbrev pub IsCertFaultIn : List Datum → CertFault → Type 0
IsCertFaultIn ds f = (f.kind ≢ NoMemory → IsFirstFault ds f)
    × (f.kind ≡ NoMemory → IsCertSoundAt ds f.form)

-- The text is unreadable, or an allocation failed for a token; or it is short and spells forms in
-- which this was found.
abbrev pub IsCertTextFault : List ℕ → CertTextFault → Type 0
IsCertTextFault text (Text e) = IsReadingFault text e
IsCertTextFault text (Forms f) = SpellsWithFault IsCertFaultIn text f

-- ---- the elements so far

-- no fault so far, or what was found
abbrev pub AreCertificatesReadOrFaulty : Option CertFault → List Datum → List Certificate
    → (ℕ → Bool) → Type 0
AreCertificatesReadOrFaulty None ds cs among = AreCertificatesRead ds cs among
AreCertificatesReadOrFaulty (Some f) ds cs among = IsCertFaultIn ds f

abbrev pub IsCertificateReading : Reading → List Datum → Type 0
IsCertificateReading r ds = AreCertificatesReadOrFaulty r.fault ds r.certificates.items
    (has r.objects)
