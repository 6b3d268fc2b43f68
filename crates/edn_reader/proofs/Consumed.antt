-- A step of the reader adds its token to the tokens that the state has consumed (`step_tokens`): by cases on the token
-- and on the innermost level. In the lemmas s and z are the states before and after the token t.
use Rattle.std.proofs.Common.{◌≡◌, ◌<◌, ℕ, Bool, true, false, cond, Option, Some, None, List, [], ◌∷◌, ◌++◌, length}
use Rattle.std.proofs.Common.{refl, ap, append_assoc}
use Rattle.std.specs.Prelude.{option_map, nat_lt}
use Rattle.std.proofs.lemmas.Bool.{ltb-true}
use Rattle.std.proofs.lemmas.List.{append-nil}
use Rattle.std.proofs.lemmas.Option.{same_Some}
use Rattle.edn_reader.specs.Datum.{Atom, keyword, Datum, atom, vector, dictionary, items_of, entries_of, max_open}
use Rattle.edn_reader.specs.Token.{Token, open_vector, close_vector, open_map, close_map, leaf, tokens_of, items_tokens}
use Rattle.edn_reader.specs.Token.{entries_tokens}
use Rattle.edn_reader.specs.Reading.{Frame, in_text, in_vector, in_map, in_pair, State, has_key, put_key, put, close_as}
use Rattle.edn_reader.specs.Reading.{close_vector_at, close_map_at, takes_key, open_at, step}

-- a test that led to a value
pub kept_if_not : {A : Type 0} (b : Bool) (x y : A) → cond b None (Some x) ≡ Some y → (b ≡ false) × (x ≡ y)
kept_if_not true x y e = absurd cc
kept_if_not false x y e = (refl, cc)

pub kept_if : {A : Type 0} (b : Bool) (x y : A) → cond b (Some x) None ≡ Some y → (b ≡ true) × (x ≡ y)
kept_if true x y e = (refl, cc)
kept_if false x y e = absurd cc

pub unless_so : {A : Type 0} (b : Bool) (o : Option A) (y : A) → cond b None o ≡ Some y → (b ≡ false) × (o ≡ Some y)
unless_so true o y e = absurd cc
unless_so false o y e = (refl, e)

pub mapped : {A B : Type 0} (f : A → B) (o : Option A) (y : B) → option_map f o ≡ Some y
    → (x : A) × (o ≡ Some x) × (f x ≡ y)
mapped f None y e = absurd cc
mapped f (Some x) y e = (x, refl, cc)

abbrev pub list_tokens : List Datum → List Token
list_tokens ds = items_tokens (items_of ds)

abbrev pub pairs_tokens : List (List ℕ × Datum) → List Token
pairs_tokens es = entries_tokens (entries_of es)

pub list_tokens-append : (ds : List Datum) (d : Datum) → list_tokens (ds ++ d ∷ []) ≡ list_tokens ds ++ tokens_of d
list_tokens-append [] d = append-nil (tokens_of d)
list_tokens-append (x ∷ ds) d =
    rw (list_tokens-append ds d) (simp append_assoc)

pub pairs_tokens-append : (es : List (List ℕ × Datum)) (k : List ℕ) (d : Datum)
    → pairs_tokens (es ++ (k, d) ∷ []) ≡ pairs_tokens es ++ leaf (atom (keyword k)) ∷ tokens_of d
pairs_tokens-append [] k d = ap (λ (t : List Token). leaf (atom (keyword k)) ∷ t) (append-nil (tokens_of d))
pairs_tokens-append (e ∷ es) k d =
    rw (pairs_tokens-append es k d) (simp append_assoc)

abbrev pub frame_tokens : Frame → List Token
frame_tokens (in_text ds) = list_tokens ds
frame_tokens (in_vector ds) = open_vector ∷ list_tokens ds
frame_tokens (in_map es) = open_map ∷ pairs_tokens es
frame_tokens (in_pair es k) = open_map ∷ (pairs_tokens es ++ leaf (atom (keyword k)) ∷ [])

abbrev pub stack_tokens : List Frame → List Token
stack_tokens [] = []
stack_tokens (f ∷ fs) = stack_tokens fs ++ frame_tokens f

abbrev pub consumed : State → List Token
consumed s = stack_tokens s.outer ++ frame_tokens s.inner

put_key_tokens : (es : List (List ℕ × Datum)) (a : Atom) (g : Frame) → put_key es a ≡ Some g
    → frame_tokens g ≡ frame_tokens (in_map es) ++ leaf (atom a) ∷ []
put_key_tokens es (keyword k) g e = let h = kept_if_not (has_key k es) (in_pair es k) g e in rw (← h.1) refl
put_key_tokens es a g e = absurd cc

pub put_tokens : (f : Frame) (d : Datum) (g : Frame) → put f d ≡ Some g → frame_tokens g ≡ frame_tokens f ++ tokens_of d
put_tokens (in_text ds) d g e = rw (← same_Some (in_text (ds ++ d ∷ [])) g e) (list_tokens-append ds d)
put_tokens (in_vector ds) d g e =
    rw (← same_Some (in_vector (ds ++ d ∷ [])) g e, list_tokens-append ds d) refl
put_tokens (in_map es) (atom a) g e = put_key_tokens es a g e
put_tokens (in_pair es k) d g e =
    rw (← same_Some (in_map (es ++ (k, d) ∷ [])) g e, pairs_tokens-append es k d) (simp append_assoc)
put_tokens f d g e = absurd cc

-- a leaf holds a single element
abbrev pub IsPlain : Token → Type 0
IsPlain open_vector = Unit {0}
IsPlain close_vector = Unit {0}
IsPlain open_map = Unit {0}
IsPlain close_map = Unit {0}
IsPlain (leaf d) = (a : Atom) × (d ≡ atom a)

-- what a bracket opened, and where
pub record IsOpened (f : Frame) (s z : State) : Type 0 where
  pub waits : takes_key s.inner ≡ false
  pub room : length s.outer < max_open
  pub is : record { inner = f; outer = s.inner ∷ s.outer } ≡ z

pub opened_at : (f : Frame) (s z : State) → open_at f s ≡ Some z → IsOpened f s z
opened_at f s z e =
    let a = unless_so (takes_key s.inner) _ z e in
    let b = kept_if (nat_lt (length s.outer) max_open) _ z a.1 in
    record { waits = a.0; room = ltb-true (length s.outer) max_open b.0; is = b.1 }

-- a bracket that opens is consumed
open_tokens : (f : Frame) (t : Token) (s z : State) → frame_tokens f ≡ t ∷ [] → open_at f s ≡ Some z
    → consumed z ≡ consumed s ++ t ∷ []
open_tokens f t s z one e =
    rw (← (opened_at f s z e).is, one) refl

-- one that closes is consumed, and makes of the innermost frame i a form d
close_tokens : (d : Datum) (t : Token) (i : Frame) (fs : List Frame) (z : State)
    → tokens_of d ≡ frame_tokens i ++ t ∷ [] → close_as d fs ≡ Some z
    → consumed z ≡ (stack_tokens fs ++ frame_tokens i) ++ t ∷ []
close_tokens d t i [] z whole e = absurd cc
close_tokens d t i (f ∷ fs) z whole e =
    let m = mapped _ (put f d) z e in
    rw (← m.2, put_tokens f d m.0 m.1, whole) (simp append_assoc)

pub step_tokens : (t : Token) (s z : State) → IsPlain t → step t s ≡ Some z → consumed z ≡ consumed s ++ t ∷ []
unfolding step
step_tokens open_vector s z h e = open_tokens (in_vector []) open_vector s z refl e
step_tokens open_map s z h e = open_tokens (in_map []) open_map s z refl e
step_tokens close_vector s z h e = close_vector_tokens s.inner s.outer z e
  where
    close_vector_tokens : (i : Frame) (fs : List Frame) (z : State) → close_vector_at i fs ≡ Some z
        → consumed z ≡ (stack_tokens fs ++ frame_tokens i) ++ close_vector ∷ []
    close_vector_tokens (in_vector ds) fs z e =
        close_tokens (vector (items_of ds)) close_vector (in_vector ds) fs z refl e
    close_vector_tokens i fs z e = absurd cc
step_tokens close_map s z h e = close_map_tokens s.inner s.outer z e
  where
    close_map_tokens : (i : Frame) (fs : List Frame) (z : State) → close_map_at i fs ≡ Some z
        → consumed z ≡ (stack_tokens fs ++ frame_tokens i) ++ close_map ∷ []
    close_map_tokens (in_map es) fs z e = close_tokens (dictionary (entries_of es)) close_map (in_map es) fs z refl e
    close_map_tokens i fs z e = absurd cc
step_tokens (leaf d) s z h e =
    let m = mapped _ (put s.inner d) z e in
    rw (← m.2, put_tokens s.inner d m.0 m.1, h.1) (simp append_assoc)
