-- How the reader goes from left to right. No public clause speaks of it.
use Rattle.std.specs.Prelude.{ℕ, ◌^◌, ℤ, pos, Bool, true, false, ◌&&◌, ◌||◌, ◌==◌, nat_lt, nat_le}
use Rattle.std.specs.Prelude.{if◌then◌else◌, List, [], ◌∷◌, ◌++◌, length, Option, Some, None}
use Rattle.std.specs.Prelude.{option_map, option_and_then, codes}
use Rattle.edn_reader.specs.Datum.{Atom, nil, boolean, integer, string, keyword, Datum, atom}
use Rattle.edn_reader.specs.Datum.{vector, dictionary, items_of, entries_of, max_open}
use Rattle.edn_reader.specs.Token.{Token, open_vector, close_vector, open_map, close_map, leaf}
use Rattle.edn_reader.specs.Bytes.{is_separator, is_token_byte, is_digit, is_name_byte, is_name}
use Rattle.std.specs.Str.{bytes_eq}
use Rattle.edn_reader.specs.Spells.{is_decimal, value_after, minus, escape_of}

-- after the line feed of a comment
abbrev mutual
  pub skip : List ℕ → List ℕ
  skip [] = []
  skip (b ∷ bs) = if is_separator b then skip bs else if b == 59 then skip_comment bs else b ∷ bs

  pub skip_comment : List ℕ → List ℕ
  skip_comment [] = []
  skip_comment (b ∷ bs) = if b == 10 then skip bs else skip_comment bs

abbrev pub word : List ℕ → List ℕ
word [] = []
word (b ∷ bs) = if is_token_byte b then b ∷ word bs else []

abbrev pub after_word : List ℕ → List ℕ
after_word [] = []
after_word (b ∷ bs) = if is_token_byte b then after_word bs else b ∷ bs

-- the bytes of a name at the front, and what follows them
abbrev pub names : List ℕ → List ℕ
names [] = []
names (b ∷ bs) = if is_name_byte b then b ∷ names bs else []

abbrev pub after_names : List ℕ → List ℕ
after_names [] = []
after_names (b ∷ bs) = if is_name_byte b then after_names bs else b ∷ bs

-- the digits at the front, and what follows them
abbrev pub digits : List ℕ → List ℕ
digits [] = []
digits (b ∷ bs) = if is_digit b then b ∷ digits bs else []

abbrev pub after_digits : List ℕ → List ℕ
after_digits [] = []
after_digits (b ∷ bs) = if is_digit b then after_digits bs else b ∷ bs

unfoldable pub positive_of : List ℕ → Option ℤ
positive_of ds =
    if is_decimal ds
    && nat_lt (value_after 0 ds) (2 ^ 63) then Some (pos (value_after 0 ds)) else None

unfoldable pub negative_of : List ℕ → Option ℤ
negative_of ds =
    if is_decimal ds
    && nat_le (value_after 0 ds) (2 ^ 63) then Some (minus (value_after 0 ds)) else None

unfoldable pub integer_of : List ℕ → Option ℤ
integer_of [] = None
integer_of (b ∷ bs) =
    if b == 43 then positive_of bs else if b == 45 then negative_of bs else positive_of (b ∷ bs)

unfoldable pub keyword_of : List ℕ → Option Atom
keyword_of k = if is_name k then Some (keyword k) else None

unfoldable pub literal_of : List ℕ → Option Atom
literal_of w =
    if bytes_eq w (codes "nil") then Some nil
    else if bytes_eq w (codes "true") then Some (boolean true)
    else if bytes_eq w (codes "false") then Some (boolean false)
    else option_map integer (integer_of w)

unfoldable pub atom_of : List ℕ → Option Atom
atom_of [] = None
atom_of (b ∷ bs) = if b == 58 then keyword_of bs else literal_of (b ∷ bs)

pub data Next : Type 0 where
  end : Next
  bad : Next
  got : Token → List ℕ → Next

abbrev pub got_word : Option Atom → List ℕ → Next
got_word None rest = bad
got_word (Some a) rest = got (leaf (atom a)) rest

abbrev pub with_byte : ℕ → Option (List ℕ × List ℕ) → Option (List ℕ × List ℕ)
with_byte b None = None
with_byte b (Some p) = Some (b ∷ p.0, p.1)

-- what a string holds after its quote, and what follows the quote that ends it
abbrev mutual
  pub string_at : List ℕ → Option (List ℕ × List ℕ)
  string_at [] = None
  string_at (b ∷ bs) =
      if b == 34 then Some ([], bs) else if b == 92 then escaped_at bs else with_byte b
      (string_at bs)

  pub escaped_at : List ℕ → Option (List ℕ × List ℕ)
  escaped_at [] = None
  escaped_at (c ∷ cs) = option_and_then (λ e. with_byte e (string_at cs)) (escape_of c)

-- what follows the quote that ends a string
abbrev pub string_end : List ℕ → Option (List ℕ)
string_end bytes = option_map (λ p. p.1) (string_at bytes)

abbrev pub got_string : Option (List ℕ × List ℕ) → Next
got_string None = bad
got_string (Some p) = got (leaf (atom (string p.0))) p.1

unfoldable pub first : List ℕ → Next
first [] = end
first (b ∷ bs) =
    if b == 91 then got open_vector bs
    else if b == 93 then got close_vector bs
    else if b == 123 then got open_map bs
    else if b == 125 then got close_map bs
    else if b == 34 then got_string (string_at bs)
    else got_word (atom_of (word (b ∷ bs))) (after_word (b ∷ bs))

-- the next token of the text
unfoldable pub next : List ℕ → Next
next bytes = first (skip bytes)

-- ---- from tokens to forms

-- what is open: the text itself, a vector, or a map with a key that waits for its value
pub data Frame : Type 0 where
  in_text : List Datum → Frame
  in_vector : List Datum → Frame
  in_map : List (List ℕ × Datum) → Frame
  in_pair : List (List ℕ × Datum) → List ℕ → Frame

-- the innermost first
pub record State : Type 0 where
  pub inner : Frame
  pub outer : List Frame

abbrev pub has_key : List ℕ → List (List ℕ × Datum) → Bool
has_key k [] = false
has_key k (e ∷ es) = bytes_eq k e.0 || has_key k es

abbrev pub put_key : List (List ℕ × Datum) → Atom → Option Frame
put_key es nil = None
put_key es (boolean b) = None
put_key es (integer z) = None
put_key es (string s) = None
put_key es (keyword k) = if has_key k es then None else Some (in_pair es k)

-- a form after the others
abbrev pub put : Frame → Datum → Option Frame
put (in_text ds) d = Some (in_text (ds ++ d ∷ []))
put (in_vector ds) d = Some (in_vector (ds ++ d ∷ []))
put (in_map es) (atom a) = put_key es a
put (in_map es) (vector ds) = None
put (in_map es) (dictionary ds) = None
put (in_pair es k) d = Some (in_map (es ++ (k, d) ∷ []))

-- closes the innermost frame as this form
abbrev pub close_as : Datum → List Frame → Option State
close_as d [] = None
close_as d (f ∷ fs) = option_map (λ g. record { inner = g; outer = fs }) (put f d)

abbrev pub close_vector_at : Frame → List Frame → Option State
close_vector_at (in_text ds) fs = None
close_vector_at (in_vector ds) fs = close_as (vector (items_of ds)) fs
close_vector_at (in_map es) fs = None
close_vector_at (in_pair es k) fs = None

abbrev pub close_map_at : Frame → List Frame → Option State
close_map_at (in_text ds) fs = None
close_map_at (in_vector ds) fs = None
close_map_at (in_map es) fs = close_as (dictionary (entries_of es)) fs
close_map_at (in_pair es k) fs = None

-- a key comes first in a map
abbrev pub takes_key : Frame → Bool
takes_key (in_text ds) = false
takes_key (in_vector ds) = false
takes_key (in_map es) = true
takes_key (in_pair es k) = false

abbrev pub open_at : Frame → State → Option State
open_at f s =
    if takes_key s.inner then None else if nat_lt (length s.outer) max_open then Some
    (record { inner = f; outer = s.inner ∷ s.outer }) else None

unfoldable pub step : Token → State → Option State
step open_vector s = open_at (in_vector []) s
step close_vector s = close_vector_at s.inner s.outer
step open_map s = open_at (in_map []) s
step close_map s = close_map_at s.inner s.outer
step (leaf d) s = option_map (λ f. record s { inner = f }) (put s.inner d)

-- the state after a token, and the text after it
abbrev pub after_token : State → Next → Option (State × List ℕ)
after_token s end = None
after_token s bad = None
after_token s (got t rest) = option_map (λ z. (z, rest)) (step t s)

abbrev pub steps : List Token → State → Option State
steps [] s = Some s
steps (t ∷ ts) s = option_and_then (λ z. steps ts z) (step t s)

abbrev pub opening : State
opening = record { inner = in_text []; outer = [] }

abbrev pub closed : List Datum → State
closed ds = record { inner = in_text ds; outer = [] }
