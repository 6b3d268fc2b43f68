-- How the reader judges a form by the objects of the forms before it. No public clause speaks of
-- it.
use Rattle.std.specs.Prelude.{◌≡◌, ◌==◌, ℕ, Bool, true, false, Some, None, is_some}
use Rattle.std.specs.Prelude.{List, Result, MatchResult}
use Rattle.std.specs.List.{list_any}
use Rattle.edn_reader.specs.Datum.{Datum}
use Rattle.number_map.specs.Lookup.{value_of}
use Rattle.number_map.specs.declared.NumberMap.{NumberMap}
use Rattle.certificate.specs.Denotes.{Reading, certificate_of, reading_of, Denotes}
use Rattle.certificate.specs.declared.Certificate.{Certificate}
use Rattle.certificate.specs.declared.fault.CertFaultKind.{CertFaultKind}
use Rattle.certificate.specs.declared.fault.CertFaultKind.TheVariants.{NotACertificate}
use Rattle.certificate.specs.declared.fault.CertFaultKind.TheVariants.{TwoForOneObject, NoMemory}

-- whether the map has a value for the number
abbrev pub has : {V : Type 0} → NumberMap V → ℕ → Bool
has m x = is_some (value_of m x)

-- what is wrong with a form, or that nothing is if an allocation failed, by whether an object is
-- that of an earlier form
abbrev pub IsFaultAmong : (ℕ → Bool) → Datum → CertFaultKind → Type 0
IsFaultAmong among d NotACertificate = certificate_of d ≡ None
IsFaultAmong among d TwoForOneObject =
    (r : Reading) × (certificate_of d ≡ Some r) × (among r.object ≡ true)
IsFaultAmong among d NoMemory =
    (r : Reading) × (certificate_of d ≡ Some r) × (among r.object ≡ false)

-- the certificate that a form is, of an object that no earlier form has, or what is wrong with it
abbrev pub IsNextCertificate : (ℕ → Bool) → Datum → Result Certificate CertFaultKind → Type 0
IsNextCertificate among d found =
    MatchResult found (λ c. (certificate_of d ≡ Some (reading_of c))
    × (among c.object ≡ false)) (IsFaultAmong among d)

-- the forms so far, their certificates, and which objects these are of
pub record AreCertificatesRead (ds : List Datum) (cs : List Certificate) (among : ℕ → Bool) :
    Type 0 where
  pub denoted : Denotes ds cs
  pub objects : (x : ℕ) → among x ≡ list_any (λ c. c.object == x) cs
