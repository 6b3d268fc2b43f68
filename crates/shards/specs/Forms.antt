-- The maps of a history that are on some of its objects.
use Rattle.std.specs.Prelude.{ℕ, Bool, false, List, filter}
use Rattle.std.specs.Option.{option_map_or}
use Rattle.edn_reader.specs.Datum.{Datum}
use Rattle.history.specs.Maps.{client_of}

-- whether a form is the map of a client on one of these objects
abbrev pub is_on : (ℕ → Bool) → Datum → Bool
is_on has d = option_map_or (λ m. has m.object) (client_of d) false

-- the maps of clients on these objects, in their order
abbrev pub forms_on : (ℕ → Bool) → List Datum → List Datum
forms_on has ds = filter (is_on has) ds
