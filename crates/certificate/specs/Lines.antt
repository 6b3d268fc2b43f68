-- The text that is written for certificates.
use Rattle.std.specs.Prelude.{ℕ, ◌≤◌, ℤ, Bool, true, false, List, [], ◌∷◌, ◌++◌, codes, decimal}
use Rattle.std.specs.Prelude.{All}
use Rattle.std.specs.Fmt.{signed_decimal}
use Rattle.edn_reader.specs.Datum.{Datum}
use Rattle.edn_reader.specs.Spells.{Spells}
use Rattle.edn_reader.specs.Text.{between}
use Rattle.edn.specs.Fields.{max_object}
use Rattle.certificate.specs.Denotes.{Denotes}
use Rattle.certificate.specs.declared.Certificate.{Certificate}

-- the integers with a space between them
abbrev pub numbers_text : Bool → List ℤ → List ℕ
numbers_text first [] = []
numbers_text first (z ∷ zs) =
    (between first (codes " ") ++ signed_decimal z) ++ numbers_text false zs

-- the line of a certificate, as {:object 0, :order [0 2]}
abbrev pub certificate_line : Certificate → List ℕ
certificate_line c =
    codes "{:object "
    ++ (decimal c.object
    ++ (codes ", :order [" ++ (numbers_text true c.order.items ++ codes "]}\n")))

abbrev pub certificate_lines : List Certificate → List ℕ
certificate_lines [] = []
certificate_lines (c ∷ cs) = certificate_line c ++ certificate_lines cs

-- each object has a number that a text can have
abbrev pub AreCertificatesInRange : List Certificate → Type 0
AreCertificatesInRange cs = All (λ c. c.object ≤ max_object) cs

-- the text is that of some forms, and these denote the certificates
pub record SpellsCertificates (cs : List Certificate) (bytes : List ℕ) : Type 0 where
  pub forms : List Datum
  pub spelled : Spells forms bytes
  pub denoted : Denotes forms cs
