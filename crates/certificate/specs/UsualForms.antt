-- What the usual reader finds at the front of a text.
use Rattle.std.specs.Prelude.{◌≡◌, ℕ, ℤ, List, [], ◌∷◌, ◌++◌, Some, map}
use Rattle.std.specs.Str.{IsUtf8}
use Rattle.edn_reader.specs.Datum.{integer, Datum, atom, items_of}
use Rattle.edn_reader.specs.Elements.{SpellsFront}
use Rattle.edn_reader.specs.Sound.{BeginWith}
use Rattle.edn_reader.specs.Token.{Token, close_vector, items_tokens}
use Rattle.certificate.specs.Denotes.{certificate_of, reading_of}
use Rattle.certificate.specs.declared.Certificate.{Certificate}

-- The text begins with one form, which is this certificate, and this rest follows it.
pub record ReadsUsual (text : List ℕ) (certificate : Certificate) (rest : List ℕ) : Type 0 where
  pub form : Datum
  pub front : SpellsFront text (form ∷ []) rest
  pub utf8 : IsUtf8 rest
  pub own : certificate_of form ≡ Some (reading_of certificate)

-- ---- the order. No public clause speaks of it.

-- the tokens of integers
abbrev pub numbers_tokens : List ℤ → List Token
numbers_tokens zs = items_tokens (items_of (map (λ z. atom (integer z)) zs))

-- The text begins with these integers and the bracket after them, and this rest follows.
abbrev pub ReadsOrder : List ℕ → List ℤ → List ℕ → Type 0
ReadsOrder text zs rest = BeginWith (numbers_tokens zs ++ close_vector ∷ []) text rest
