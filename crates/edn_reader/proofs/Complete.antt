-- The tokens of forms lead to those forms, by induction on the form, from any state that takes one form more. In the
-- lemmas i is the innermost frame, g the same with the form d put in, and fs are the frames around it; n more may be
-- open.
use Rattle.std.proofs.Common.{◌≡◌, ℕ, ◌+◌, ◌-◌, ◌<◌, true, false, Option, Some, None, List, [], ◌∷◌, ◌++◌, length, refl}
use Rattle.std.proofs.Common.{sym, ap, append_assoc, arith}
use Rattle.std.specs.Prelude.{option_and_then, nat_lt}
use Rattle.std.proofs.lemmas.List.{append-nil}
use Rattle.std.proofs.lemmas.Bool.{lt-ltb, or_from}
use Rattle.std.specs.Str.{bytes_eq}
use Rattle.std.proofs.lemmas.Option.{same_Some}
use Rattle.edn_reader.proofs.Keys.{same_not}
use Rattle.edn_reader.specs.Datum.{Datum, atom, vector, dictionary, Items, no_items, item, Entries, no_entries}
use Rattle.edn_reader.specs.Datum.{entry, items_of, entries_of, Lacks, DatumFits, ItemsFit, EntriesFit}
use Rattle.edn_reader.specs.Token.{Token, close_vector, close_map, tokens_of, items_tokens, entries_tokens}
use Rattle.edn_reader.specs.Reading.{Frame, in_vector, in_map, in_pair, State, has_key, put, takes_key}
use Rattle.edn_reader.specs.Reading.{open_at, step, steps}

-- a state, written out
abbrev pub at : Frame → List Frame → State
at f fs = record { inner = f; outer = fs }

abbrev pub items_list : Items → List Datum
items_list no_items = []
items_list (item d ds) = d ∷ items_list ds

abbrev pub entries_list : Entries → List (List ℕ × Datum)
entries_list no_entries = []
entries_list (entry k d es) = (k, d) ∷ entries_list es

pub items_of_list : (ds : Items) → items_of (items_list ds) ≡ ds
items_of_list no_items = refl
items_of_list (item d ds) = ap (item d) (items_of_list ds)

pub entries_of_list : (es : Entries) → entries_of (entries_list es) ≡ es
entries_of_list no_entries = refl
entries_of_list (entry k d es) = ap (entry k d) (entries_of_list es)

by_first : (ts us : List Token) (o : Option State) (z : State)
    → ((x : State) → steps ts x ≡ Some z → steps (ts ++ us) x ≡ steps us z)
    → option_and_then (λ x. steps ts x) o ≡ Some z → option_and_then (λ x. steps (ts ++ us) x) o ≡ steps us z
by_first ts us None z ih h = absurd cc
by_first ts us (Some x) z ih h = ih x h

pub steps-append : (ts us : List Token) (s z : State) → steps ts s ≡ Some z → steps (ts ++ us) s ≡ steps us z
steps-append [] us s z e = ap (λ (x : State). steps us x) (same_Some s z e)
steps-append (t ∷ ts) us s z e = by_first ts us (step t s) z (λ x h. steps-append ts us x z h) e

-- the keys that came before are none of those that come
abbrev pub Apart : List (List ℕ × Datum) → Entries → Type 0
Apart [] es = Unit {0}
Apart (e ∷ pre) es = Lacks e.0 es × Apart pre es

Apart-key : (pre : List (List ℕ × Datum)) (k : List ℕ) (d : Datum) (es : Entries) → Apart pre (entry k d es)
    → has_key k pre ≡ false
Apart-key [] k d es h = refl
Apart-key (e ∷ pre) k d es h =
    or_from (bytes_eq k e.0) (has_key k pre) (same_not k e.0 (λ q. h.0.0 (sym q))) (Apart-key pre k d es h.1)

Apart-next : (pre : List (List ℕ × Datum)) (k : List ℕ) (d : Datum) (es : Entries) → Lacks k es
    → Apart pre (entry k d es) → Apart (pre ++ (k, d) ∷ []) es
Apart-next [] k d es l h = (l, tt)
Apart-next (e ∷ pre) k d es l h = (h.0.1, Apart-next pre k d es l h.1)

-- what holds a vector or a map waits for no key
holds_vector : (f : Frame) (ds : Items) (g : Frame) → put f (vector ds) ≡ Some g → takes_key f ≡ false
holds_vector f ds g e = grind arith

holds_map : (f : Frame) (ds : Entries) (g : Frame) → put f (dictionary ds) ≡ Some g → takes_key f ≡ false
holds_map f ds g e = grind arith

opens : (f i : Frame) (fs : List Frame) → takes_key i ≡ false → length fs < 16
    → open_at f (at i fs) ≡ Some (at f (i ∷ fs))
opens f i fs h l = let t : nat_lt (length fs) 16 ≡ true = lt-ltb (length fs) 16 l in rw (h, t) refl

-- a frame that takes any form at its end
abbrev pub TakesAll : (List Datum → Frame) → Type 0
TakesAll frame = (ds : List Datum) (d : Datum) → put (frame ds) d ≡ Some (frame (ds ++ d ∷ []))

mutual
  unfolding step

  -- the tokens of a form put it into the innermost frame
  pub steps_datum : (d : Datum) (n : ℕ) (i : Frame) (fs : List Frame) (g : Frame) → DatumFits n d → n + length fs ≡ 16
      → put i d ≡ Some g → steps (tokens_of d) (at i fs) ≡ Some (at g fs)
  steps_datum (atom a) n i fs g fit len e = rw e refl
  steps_datum (vector ds) n i fs g fit len e =
      let a : steps (items_tokens ds) (at (in_vector []) (i ∷ fs)) ≡ Some (at (in_vector (items_list ds)) (i ∷ fs)) =
      steps_items ds (n - 1) in_vector (λ xs d. refl) [] (i ∷ fs) fit.1 (omega (arith, fit.0)) in
      rw (
        opens (in_vector []) i fs (holds_vector i ds g e) (omega (arith, fit.0)),
        steps-append (items_tokens ds) (close_vector ∷ []) _ _ a,
        items_of_list ds,
        e,
      ) refl
  steps_datum (dictionary ds) n i fs g fit len e =
      let a : steps (entries_tokens ds) (at (in_map []) (i ∷ fs)) ≡ Some (at (in_map (entries_list ds)) (i ∷ fs)) =
      steps_entries ds (n - 1) [] (i ∷ fs) fit.1 tt (omega (arith, fit.0)) in
      rw (
        opens (in_map []) i fs (holds_map i ds g e) (omega (arith, fit.0)),
        steps-append (entries_tokens ds) (close_map ∷ []) _ _ a,
        entries_of_list ds,
        e,
      ) refl

  -- The tokens of the elements of a vector, one after another, put these behind the elements that the frame has.
  pub steps_items : (ds : Items) (n : ℕ) (frame : List Datum → Frame) (all : TakesAll frame) (pre : List Datum)
      (fs : List Frame) → ItemsFit n ds → n + length fs ≡ 16
      → steps (items_tokens ds) (at (frame pre) fs) ≡ Some (at (frame (pre ++ items_list ds)) fs)
  steps_items no_items n frame all pre fs fit len = rw append-nil refl
  steps_items (item d ds) n frame all pre fs fit len =
      let a = steps_datum d n (frame pre) fs (frame (pre ++ d ∷ [])) fit.0 len (all pre d) in
      rw (steps-append (tokens_of d) (items_tokens ds) _ _ a, steps_items ds n frame all (pre ++ d ∷ []) fs fit.1 len)
      (simp append_assoc)

  pub steps_entries : (es : Entries) (n : ℕ) (pre : List (List ℕ × Datum)) (fs : List Frame) → EntriesFit n es
      → Apart pre es → n + length fs ≡ 16
      → steps (entries_tokens es) (at (in_map pre) fs) ≡ Some (at (in_map (pre ++ entries_list es)) fs)
  steps_entries no_entries n pre fs fit apart len = rw append-nil refl
  steps_entries (entry k d es) n pre fs fit apart len =
      let h : has_key k pre ≡ false = Apart-key pre k d es apart in
      let a = steps_datum d n (in_pair pre k) fs (in_map (pre ++ (k, d) ∷ [])) fit.1 len refl in
      let b = steps_entries es n (pre ++ (k, d) ∷ []) fs fit.2 (Apart-next pre k d es fit.0 apart) len in
      rw (h, steps-append (tokens_of d) (entries_tokens es) _ _ a, b) (simp append_assoc)
