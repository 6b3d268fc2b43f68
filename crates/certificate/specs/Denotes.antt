-- The certificates that the forms of a text denote.
use Rattle.std.specs.Prelude.{◌≡◌, ◌≢◌, ℕ, ℤ, List, Option, Some, None, option_and_then, map, codes}
use Rattle.std.specs.Prelude.{AllPairs}
use Rattle.edn_reader.specs.Truncation.{integer_vector_of}
use Rattle.edn_reader.specs.Datum.{Datum, atom, vector, dictionary}
use Rattle.edn.specs.Fields.{value_at, natural_in, object_in}
use Rattle.certificate.specs.declared.Certificate.{Certificate}

-- what a certificate says: for an object an order of operations, by their numbers
pub record Reading : Type 0 where
  pub object : ℕ
  pub order : List ℤ

-- a vector of integers
abbrev pub order_in : Option Datum → Option (List ℤ)
order_in value = option_and_then integer_vector_of value

abbrev pub reading_with : Option ℕ → Option (List ℤ) → Option Reading
reading_with (Some x) (Some zs) = Some (record { object = x; order = zs })
reading_with x zs = None

-- The certificate that a form is, if it is one: a map whose :object is a number from 0 to 65,535
-- and whose :order is a vector of integers. Other keys are ignored.
abbrev pub certificate_of : Datum → Option Reading
certificate_of (atom a) = None
certificate_of (vector ds) = None
certificate_of (dictionary es) =
    reading_with (object_in (natural_in (value_at (codes "object") es)))
    (order_in (value_at (codes "order") es))

-- what a certificate in memory says
abbrev pub reading_of : Certificate → Reading
reading_of c = record { object = c.object; order = c.order.items }

-- no two certificates are of one object
abbrev pub AreDistinct : List Certificate → Type 0
AreDistinct cs = AllPairs (λ a b. a.object ≢ b.object) cs

-- The forms are these certificates, one by one and in order, and no two of them are of one object.
pub record Denotes (ds : List Datum) (cs : List Certificate) : Type 0 where
  pub each : map certificate_of ds ≡ map (λ c. Some (reading_of c)) cs
  pub distinct : AreDistinct cs
