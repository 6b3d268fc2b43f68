-- Brackets and single elements, and those of a form. A leaf holds a form that is no vector and no
-- map.
use Rattle.std.specs.Prelude.{List, [], ◌∷◌, ◌++◌}
use Rattle.edn_reader.specs.Datum.{keyword, Datum, atom, vector, dictionary, Items, no_items, item}
use Rattle.edn_reader.specs.Datum.{Entries, no_entries, entry}

pub data Token : Type 0 where
  open_vector : Token
  close_vector : Token
  open_map : Token
  close_map : Token
  leaf : Datum → Token

abbrev mutual
  pub tokens_of : Datum → List Token
  tokens_of (atom a) = leaf (atom a) ∷ []
  tokens_of (vector ds) = open_vector ∷ (items_tokens ds ++ close_vector ∷ [])
  tokens_of (dictionary es) = open_map ∷ (entries_tokens es ++ close_map ∷ [])

  pub items_tokens : Items → List Token
  items_tokens no_items = []
  items_tokens (item d ds) = tokens_of d ++ items_tokens ds

  pub entries_tokens : Entries → List Token
  entries_tokens no_entries = []
  entries_tokens (entry k d es) = leaf (atom (keyword k)) ∷ (tokens_of d ++ entries_tokens es)
