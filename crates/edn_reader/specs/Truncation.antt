-- What is kept of an element of which a reader needs only the beginning of each value; and vectors
-- of integers.
use Rattle.std.specs.Prelude.{ℕ, zero, suc, ◌+◌, ◌-◌, ◌==◌, ℤ, Bool, true, false, if◌then◌else◌}
use Rattle.std.specs.Prelude.{List, [], ◌∷◌, ◌++◌, Option, Some, None, option_map, option_and_then}
use Rattle.edn_reader.specs.Datum.{nil, integer, Datum, atom, vector, dictionary, Items, no_items}
use Rattle.edn_reader.specs.Datum.{item, Entries, no_entries, entry}
use Rattle.edn_reader.specs.Token.{Token, open_vector, close_vector, open_map, close_map, leaf}

-- how many elements of a vector are kept
abbrev pub most_items : ℕ
most_items = 4

-- an element of a vector, a vector or a map in place of which nil is kept
abbrev pub truncated_item : Datum → Datum
truncated_item (atom a) = atom a
truncated_item (vector ds) = atom nil
truncated_item (dictionary es) = atom nil

-- this many elements at most
abbrev pub truncated_items : ℕ → Items → Items
truncated_items zero ds = no_items
truncated_items (suc n) no_items = no_items
truncated_items (suc n) (item d ds) = item (truncated_item d) (truncated_items n ds)

-- of a vector the first elements, and of a map none
abbrev pub truncated_value : Datum → Datum
truncated_value (atom a) = atom a
truncated_value (vector ds) = vector (truncated_items most_items ds)
truncated_value (dictionary es) = dictionary no_entries

abbrev pub truncated_entries : Entries → Entries
truncated_entries no_entries = no_entries
truncated_entries (entry k d es) = entry k (truncated_value d) (truncated_entries es)

-- a map with the beginnings of its values, or the beginning of what is no map
abbrev pub truncated : Datum → Datum
truncated (atom a) = atom a
truncated (vector ds) = vector (truncated_items most_items ds)
truncated (dictionary es) = dictionary (truncated_entries es)

-- what is kept of an element, by whether it is cut
abbrev pub kept_of : Bool → Datum → Datum
kept_of cuts d = if cuts then truncated d else d

-- ---- a vector of integers

abbrev pub integer_in : Datum → Option ℤ
integer_in (atom (integer z)) = Some z
integer_in other = None

-- the elements of a vector, if all are integers
abbrev pub integers_in : Items → Option (List ℤ)
integers_in no_items = Some []
integers_in (item d ds) =
    option_and_then (λ z. option_map (λ zs. z ∷ zs) (integers_in ds)) (integer_in d)

-- the numbers of a vector that holds integers alone
abbrev pub integer_vector_of : Datum → Option (List ℤ)
integer_vector_of (vector ds) = integers_in ds
integer_vector_of other = None

-- ---- token by token. No public clause speaks of it.

-- The tokens that are kept so far; whether a map is open that holds the values; how many brackets
-- of a value are open, and how many elements of it have room.
pub record Keep : Type 0 where
  pub tokens : List Token
  pub cuts : Bool
  pub in_map : Bool
  pub below : ℕ
  pub room : ℕ

abbrev pub nothing_kept : Bool → Keep
nothing_kept cuts = record { tokens = []; cuts = cuts; in_map = false; below = 0; room = 0 }

abbrev pub pushed : Token → Keep → Keep
pushed t k = record k { tokens = k.tokens ++ t ∷ [] }

-- a vector whose first elements are kept
abbrev pub into_vector : Keep → Keep
into_vector k = if k.cuts then record k { below = 1; room = most_items } else k

-- the map that holds the values, or a value
abbrev pub into_map : Keep → Keep
into_map k =
    if k.cuts then (if k.in_map then record k { below = 1 } else record k { in_map = true }) else k

abbrev pub keep_outside : Token → Keep → Keep
keep_outside open_vector k = pushed open_vector (into_vector k)
keep_outside close_vector k = pushed close_vector k
keep_outside open_map k = pushed open_map (into_map k)
keep_outside close_map k = pushed close_map k
keep_outside (leaf d) k = pushed (leaf d) k

abbrev pub keep_item : Token → Keep → Keep
keep_item t k =
    if k.room == 0 then k else record k { tokens = k.tokens ++ t ∷ []; room = k.room - 1 }

abbrev pub keep_inside : Token → Keep → Keep
keep_inside open_vector k = record (keep_item (leaf (atom nil)) k) { below = 2 }
keep_inside close_vector k = pushed close_vector (record k { below = 0; room = 0 })
keep_inside open_map k = record (keep_item (leaf (atom nil)) k) { below = 2 }
keep_inside close_map k = pushed close_map (record k { below = 0; room = 0 })
keep_inside (leaf d) k = keep_item (leaf d) k

abbrev pub pass_over : Token → Keep → Keep
pass_over open_vector k = record k { below = k.below + 1 }
pass_over close_vector k = record k { below = k.below - 1 }
pass_over open_map k = record k { below = k.below + 1 }
pass_over close_map k = record k { below = k.below - 1 }
pass_over (leaf d) k = k

abbrev pub keep : Token → Keep → Keep
keep t k =
    if k.below == 0 then keep_outside t k else if k.below == 1 then keep_inside t k else pass_over t
    k

abbrev pub keep_all : List Token → Keep → Keep
keep_all [] k = k
keep_all (t ∷ ts) k = keep_all ts (keep t k)
