-- The states of the reader without the forms: what is open, and which keys each map has. No public
-- clause speaks of it.
use Rattle.std.specs.Prelude.{ℕ, Bool, true, false, ◌||◌, nat_lt, if◌then◌else◌, List, [], ◌∷◌}
use Rattle.std.specs.Prelude.{◌++◌, length, map, Option, Some, None, option_map}
use Rattle.std.specs.Borrow.{Bor}
use Rattle.std.specs.Str.{bytes_eq}
use Rattle.edn_reader.specs.Datum.{nil, boolean, integer, string, keyword, Datum, atom, vector}
use Rattle.edn_reader.specs.Datum.{dictionary, max_open}
use Rattle.edn_reader.specs.Token.{Token, open_vector, close_vector, open_map, close_map, leaf}
use Rattle.edn_reader.specs.Reading.{Next, end, bad, got, Frame, in_text, in_vector, in_map}
use Rattle.edn_reader.specs.Reading.{in_pair, State}

-- a map has its keys, and may wait for the value of the last
pub data Shape : Type 0 where
  whole_text : Shape
  a_vector : Shape
  a_map : Bool → List (List ℕ) → Shape

-- the innermost first
pub record Shapes : Type 0 where
  pub inner : Shape
  pub outer : List Shape

abbrev pub name_views : List (Bor (List ℕ)) → List (List ℕ)
name_views ns = map (λ n. n.now) ns

abbrev pub has_name : List ℕ → List (List ℕ) → Bool
has_name k [] = false
has_name k (l ∷ ls) = bytes_eq k l || has_name k ls

-- ---- the shape of a state

abbrev pub keys_of : List (List ℕ × Datum) → List (List ℕ)
keys_of [] = []
keys_of (e ∷ es) = e.0 ∷ keys_of es

abbrev pub shape_of : Frame → Shape
shape_of (in_text ds) = whole_text
shape_of (in_vector ds) = a_vector
shape_of (in_map es) = a_map false (keys_of es)
shape_of (in_pair es k) = a_map true (keys_of es ++ k ∷ [])

abbrev pub shape_list : List Frame → List Shape
shape_list [] = []
shape_list (f ∷ fs) = shape_of f ∷ shape_list fs

abbrev pub shapes_of : State → Shapes
shapes_of s = record { inner = shape_of s.inner; outer = shape_list s.outer }

-- ---- a token more

-- the key that a form could be
abbrev pub key_in : Datum → Option (List ℕ)
key_in (atom nil) = None
key_in (atom (boolean b)) = None
key_in (atom (integer z)) = None
key_in (atom (string s)) = None
key_in (atom (keyword k)) = Some k
key_in (vector ds) = None
key_in (dictionary es) = None

abbrev pub put_key_in : List (List ℕ) → Option (List ℕ) → Option Shape
put_key_in ks None = None
put_key_in ks (Some k) = if has_name k ks then None else Some (a_map true (ks ++ k ∷ []))

abbrev pub put_in : Shape → Option (List ℕ) → Option Shape
put_in whole_text k = Some whole_text
put_in a_vector k = Some a_vector
put_in (a_map true ks) k = Some (a_map false ks)
put_in (a_map false ks) k = put_key_in ks k

abbrev pub closed_in : List Shape → Option Shapes
closed_in [] = None
closed_in (f ∷ fs) = option_map (λ g. record { inner = g; outer = fs }) (put_in f None)

abbrev pub vector_closed : Shape → List Shape → Option Shapes
vector_closed whole_text fs = None
vector_closed a_vector fs = closed_in fs
vector_closed (a_map w ks) fs = None

abbrev pub map_closed : Shape → List Shape → Option Shapes
map_closed whole_text fs = None
map_closed a_vector fs = None
map_closed (a_map true ks) fs = None
map_closed (a_map false ks) fs = closed_in fs

abbrev pub waits_for_key : Shape → Bool
waits_for_key whole_text = false
waits_for_key a_vector = false
waits_for_key (a_map true ks) = false
waits_for_key (a_map false ks) = true

abbrev pub opened : Shape → Shapes → Option Shapes
opened f s =
    if waits_for_key s.inner then None else if nat_lt (length s.outer) max_open then Some
    (record { inner = f; outer = s.inner ∷ s.outer }) else None

unfoldable pub shape_step : Token → Shapes → Option Shapes
shape_step open_vector s = opened a_vector s
shape_step close_vector s = vector_closed s.inner s.outer
shape_step open_map s = opened (a_map false []) s
shape_step close_map s = map_closed s.inner s.outer
shape_step (leaf d) s = option_map (λ f. record s { inner = f }) (put_in s.inner (key_in d))

-- the shapes after a token, and the text after it
abbrev pub after_piece : Shapes → Next → Option (Shapes × List ℕ)
after_piece s end = None
after_piece s bad = None
after_piece s (got t rest) = option_map (λ z. (z, rest)) (shape_step t s)

-- nothing but the text is open
abbrev pub nothing_open : Shapes
nothing_open = record { inner = whole_text; outer = [] }
