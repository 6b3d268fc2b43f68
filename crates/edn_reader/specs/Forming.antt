-- Tokens that begin with those of a form. No public clause speaks of it.
use Rattle.std.specs.Prelude.{◌≡◌, List, ◌∷◌, ◌++◌}
use Rattle.edn_reader.specs.Datum.{Datum, Items, Entries}
use Rattle.edn_reader.specs.Text.{InProfile, ItemsInProfile, EntriesInProfile}
use Rattle.edn_reader.specs.Token.{Token, close_vector, close_map, tokens_of, items_tokens}
use Rattle.edn_reader.specs.Token.{entries_tokens}

-- These tokens begin with those of a form, and `rest` follows. The form's integers have 64 bits,
-- its strings are text and its keywords are spelled as keywords.
pub record BeginsForm (tokens : List Token) : Type 0 where
  pub form : Datum
  pub rest : List Token
  pub in_profile : InProfile form
  pub tokens_are : tokens ≡ tokens_of form ++ rest

-- These tokens begin with those of a vector's elements and of the bracket after them, and `rest`
-- follows. The elements' integers have 64 bits, their strings are text and their keywords are
-- spelled as keywords.
pub record BeginsItems (tokens : List Token) : Type 0 where
  pub items : Items
  pub rest : List Token
  pub in_profile : ItemsInProfile items
  pub tokens_are : tokens ≡ items_tokens items ++ close_vector ∷ rest

-- These tokens begin with those of a map's pairs and of the brace after them, and `rest` follows.
-- The pairs' integers have 64 bits, their strings are text and their keywords are spelled as
-- keywords.
pub record BeginsPairs (tokens : List Token) : Type 0 where
  pub pairs : Entries
  pub rest : List Token
  pub in_profile : EntriesInProfile pairs
  pub tokens_are : tokens ≡ entries_tokens pairs ++ close_map ∷ rest
