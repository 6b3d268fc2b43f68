-- The values of a map of which the beginnings are kept.
use Rattle.std.proofs.Common.{◌≡◌, ℕ, Bool, true, false, Option, Some, None, List, refl}
use Rattle.std.specs.Prelude.{option_map, if◌then◌else◌}
use Rattle.edn_reader.specs.Truncation.{truncated_value, truncated_entries}
use Rattle.edn_reader.specs.Datum.{Datum, atom, vector, dictionary, Entries, no_entries, entry}
use Rattle.edn.specs.Fields.{same_bytes, value_at, natural_in, keyword_in}

-- the value of a key in entries of which only the beginning of each value was kept
pub value_of_truncated : (k : List ℕ) (es : Entries)
    → value_at k (truncated_entries es) ≡ option_map truncated_value (value_at k es)
value_of_truncated k no_entries = refl
value_of_truncated k (entry l d es) = by_key (same_bytes k l) (value_of_truncated k es)
  where
    by_key : (b : Bool) → value_at k (truncated_entries es) ≡ option_map truncated_value (value_at k es)
        → (if b then Some (truncated_value d) else value_at k (truncated_entries es))
        ≡ option_map truncated_value (if b then Some d else value_at k es)
    by_key true e = refl
    by_key false e = e

-- a value of which only the beginning was kept is the same natural number, or still none
pub natural_of_truncated : (o : Option Datum) → natural_in (option_map truncated_value o) ≡ natural_in o
natural_of_truncated None = refl
natural_of_truncated (Some (atom a)) = refl
natural_of_truncated (Some (vector ds)) = refl
natural_of_truncated (Some (dictionary es)) = refl

pub keyword_of_truncated : (o : Option Datum) → keyword_in (option_map truncated_value o) ≡ keyword_in o
keyword_of_truncated None = refl
keyword_of_truncated (Some (atom a)) = refl
keyword_of_truncated (Some (vector ds)) = refl
keyword_of_truncated (Some (dictionary es)) = refl
