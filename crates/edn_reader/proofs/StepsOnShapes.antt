-- A step of the reader on shapes, which have no forms but only the keys so far, is the shape of a step on forms
-- (`step_shape`). By cases on the token and on the innermost frame.
use Rattle.std.proofs.Common.{arith, ◌≡◌, ℕ, suc, Bool, true, false, cond, Option, Some, None, List, [], ◌∷◌, ◌++◌}
use Rattle.std.proofs.Common.{length, refl, sym, ap, ◌∙◌}
use Rattle.std.specs.Prelude.{option_map, nat_lt, ◌||◌}
use Rattle.std.specs.Str.{bytes_eq}
use Rattle.edn_reader.specs.Datum.{keyword, Datum, atom, vector, dictionary, max_open, items_of, entries_of}
use Rattle.edn_reader.specs.Token.{Token, open_vector, close_vector, open_map, close_map, leaf}
use Rattle.edn_reader.specs.Reading.{Frame, in_vector, in_map, in_pair, State, has_key, put, close_as}
use Rattle.edn_reader.specs.Reading.{close_vector_at, close_map_at, takes_key, open_at, step}
use Rattle.edn_reader.specs.Shapes.{Shape, a_map, Shapes, has_name, keys_of, shape_of, shape_list, shapes_of, key_in}
use Rattle.edn_reader.specs.Shapes.{put_in, closed_in, vector_closed, map_closed, waits_for_key, opened, shape_step}

-- A map has a key if the list of its keys has it.
pub has_key_keys : (k : List ℕ) (es : List (List ℕ × Datum)) → has_key k es ≡ has_name k (keys_of es)
has_key_keys k [] = refl
has_key_keys k (e ∷ es) = ap (λ (b : Bool). bytes_eq k e.0 || b) (has_key_keys k es)

keys_of-append : (es : List (List ℕ × Datum)) (k : List ℕ) (d : Datum)
    → keys_of (es ++ (k, d) ∷ []) ≡ keys_of es ++ k ∷ []
keys_of-append [] k d = refl
keys_of-append (e ∷ es) k d = ap (λ (ks : List (List ℕ)). e.0 ∷ ks) (keys_of-append es k d)

put_key_shape : (b : Bool) (es : List (List ℕ × Datum)) (k : List ℕ)
    → option_map shape_of (cond b None (Some (in_pair es k))) ≡ cond b None (Some (a_map true (keys_of es ++ k ∷ [])))
put_key_shape true es k = refl
put_key_shape false es k = refl

pub put_shape : (f : Frame) (d : Datum) → option_map shape_of (put f d) ≡ put_in (shape_of f) (key_in d)
put_shape (in_pair es k) d = ap (λ (ks : List (List ℕ)). Some (a_map false ks)) (keys_of-append es k d)
put_shape (in_map es) (atom (keyword k)) =
    ap (λ (b : Bool). option_map shape_of (cond b None (Some (in_pair es k)))) (has_key_keys k es)
    ∙ put_key_shape (has_name k (keys_of es)) es k
put_shape f d = refl

pub takes_key_shape : (f : Frame) → takes_key f ≡ waits_for_key (shape_of f)
takes_key_shape f = grind arith

pub length_shapes : (fs : List Frame) → length (shape_list fs) ≡ length fs
length_shapes [] = refl
length_shapes (f ∷ fs) = ap suc (length_shapes fs)

-- a frame in the place of the innermost
with_outer : (fs : List Frame) (o : Option Frame)
    → option_map shapes_of (option_map (λ (g : Frame). let x : State = record { inner = g; outer = fs } in x) o)
    ≡ option_map (λ (g : Shape). let x : Shapes = record { inner = g; outer = shape_list fs } in x)
    (option_map shape_of o)
with_outer fs None = refl
with_outer fs (Some g) = refl

closed_shape : (d : Datum) (fs : List Frame) → key_in d ≡ None
    → option_map shapes_of (close_as d fs) ≡ closed_in (shape_list fs)
closed_shape d [] h = refl
closed_shape d (f ∷ fs) h =
    with_outer fs (put f d)
    ∙ ap (λ (o : Option Shape). option_map
    (λ (g : Shape). let x : Shapes = record { inner = g; outer = shape_list fs } in x) o)
    (put_shape f d ∙ ap (put_in (shape_of f)) h)

vector_closed_shape : (i : Frame) (fs : List Frame)
    → option_map shapes_of (close_vector_at i fs) ≡ vector_closed (shape_of i) (shape_list fs)
vector_closed_shape (in_vector ds) fs = closed_shape (vector (items_of ds)) fs refl
vector_closed_shape i fs = refl

map_closed_shape : (i : Frame) (fs : List Frame)
    → option_map shapes_of (close_map_at i fs) ≡ map_closed (shape_of i) (shape_list fs)
map_closed_shape (in_map es) fs = closed_shape (dictionary (entries_of es)) fs refl
map_closed_shape i fs = refl

open_cases : (a b : Bool) (x : State)
    → option_map shapes_of (cond a None (cond b (Some x) None)) ≡ cond a None (cond b (Some (shapes_of x)) None)
open_cases a b x = grind arith

open_shape : (f : Frame) (s : State) → option_map shapes_of (open_at f s) ≡ opened (shape_of f) (shapes_of s)
open_shape f s =
    let x : State = record { inner = f; outer = s.inner ∷ s.outer } in
    open_cases (takes_key s.inner) (nat_lt (length s.outer) max_open) x
    ∙ ap (λ (b : Bool). cond b None (cond (nat_lt (length s.outer) max_open) (Some (shapes_of x)) None))
    (takes_key_shape s.inner)
    ∙ ap (λ (n : ℕ). cond (waits_for_key (shape_of s.inner)) None
    (cond (nat_lt n max_open) (Some (shapes_of x)) None)) (sym (length_shapes s.outer))

-- a step of the shapes is the shape of a step
pub step_shape : (t : Token) (s : State) → option_map shapes_of (step t s) ≡ shape_step t (shapes_of s)
unfolding step shape_step
step_shape open_vector s = open_shape (in_vector []) s
step_shape close_vector s = vector_closed_shape s.inner s.outer
step_shape open_map s = open_shape (in_map []) s
step_shape close_map s = map_closed_shape s.inner s.outer
step_shape (leaf d) s =
    with_outer s.outer (put s.inner d)
    ∙ ap (λ (o : Option Shape). option_map
    (λ (g : Shape). let x : Shapes = record { inner = g; outer = shape_list s.outer } in x) o) (put_shape s.inner d)
