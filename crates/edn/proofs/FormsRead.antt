-- Forms that are read one by one, each as a thing of one sort or with a fault: if those before the next form are such
-- things, they have no fault, and a fault of the next form is the first one. By splitting the forms at the next one.
use Rattle.std.proofs.Common.{◌≡◌, ℕ, ◌+◌, ◌<◌, ◌≤◌, Option, Some, None, List, [], ◌∷◌, ◌++◌, length, map, take, drop}
use Rattle.std.proofs.Common.{get_or, ap, sym, ◌∙◌, arith}
use Rattle.std.proofs.lemmas.List.{drop_more, take_more, take-append-drop, length-take-le, length-map, map-append}
use Rattle.edn_reader.specs.Datum.{Datum}
use Rattle.edn_reader.specs.View.{view, views}
use Rattle.edn_reader.specs.declared.form.Form.{Form}
use Rattle.edn.specs.FirstFaults.{AreFaultless, AreSoundBefore, IsFirstFaultBy}

-- the forms up to the next one are those before it and itself
pub views_more : (fs : List Form) (i : ℕ) (f : Form) → i < length fs → f ≡ get_or fs i f
    → views (take (i + 1) fs) ≡ views (take i fs) ++ view f ∷ []
views_more fs i f lt is =
    ap views (take_more fs i f lt ∙ ap (λ (g : Form). take i fs ++ g ∷ []) (sym is))
    ∙ map-append view (take i fs) (f ∷ [])

module _ {Said X : Type 0} (said_by : Datum → Option Said) (seen : X → Said) where
  -- the forms are these things, one by one
  abbrev AreRead : List Datum → List X → Type 0
  AreRead ds xs = map said_by ds ≡ map (λ x. Some (seen x)) xs

  -- a form among those that are such things is one
  pub is_read : (earlier later : List Datum) (d : Datum) (xs : List X) → AreRead (earlier ++ d ∷ later) xs
      → said_by d ≡ None → ⊥
  is_read [] later d [] h none = absurd cc
  is_read [] later d (x ∷ xs) h none = let e : said_by d ≡ Some (seen x) = cc in absurd cc
  is_read (e ∷ es) later d [] h none = absurd cc
  is_read (e ∷ es) later d (x ∷ xs) h none =
      let more : map said_by (es ++ d ∷ later) ≡ map (λ x. Some (seen x)) xs = cc in
      is_read es later d xs more none

  -- One more form is read as one more thing if it says this thing.
  pub push_read : (ds : List Datum) (xs : List X) (d : Datum) (x : X) → AreRead ds xs → said_by d ≡ Some (seen x)
      → AreRead (ds ++ d ∷ []) (xs ++ x ∷ [])
  push_read ds xs d x h own =
      map-append said_by ds (d ∷ [])
      ∙ ap (λ os. os ++ said_by d ∷ []) h
      ∙ ap (λ o. map (λ y. Some (seen y)) xs ++ o ∷ []) own
      ∙ sym (map-append (λ y. Some (seen y)) xs (x ∷ []))

  -- If the next form is read as a thing, the forms up to it are read as the things so far and this one.
  pub next_read : (fs : List Form) (i : ℕ) (f : Form) (xs : List X) (x : X) → i < length fs → f ≡ get_or fs i f
      → AreRead (views (take i fs)) xs → said_by (view f) ≡ Some (seen x)
      → AreRead (views (take (i + 1) fs)) (xs ++ x ∷ [])
  next_read fs i f xs x lt is h own =
      ap (map said_by) (views_more fs i f lt is) ∙ push_read (views (take i fs)) xs (view f) x h own

-- the next form f, before which no form has a fault
module _ {Kind : Type 0} (IsFault : List Datum → Datum → Kind → Type 0) (fs : List Form) (i : ℕ) (f : Form)
    (lt : i < length fs) (is : f ≡ get_or fs i f) (faultless : AreFaultless IsFault (views (take i fs))) where
  split_at : views fs ≡ views (take i fs) ++ view f ∷ views (drop (i + 1) fs)
  split_at =
      let at = drop_more fs i f lt ∙ ap (λ (g : Form). g ∷ drop (i + 1) fs) (sym is) in
      ap views (sym (take-append-drop i fs) ∙ ap (λ (gs : List Form). take i fs ++ gs) at)
      ∙ map-append view (take i fs) (f ∷ drop (i + 1) fs)

  place_is : length (views (take i fs)) ≡ i
  place_is = length-map (take i fs) view ∙ length-take-le i fs (omega arith)

  pub sound_before : AreSoundBefore IsFault (views fs) i
  sound_before = record {
    earlier = views (take i fs);
    form = view f;
    later = views (drop (i + 1) fs);
    split = split_at;
    place_is = place_is;
    faultless = faultless;
  }

  pub first_fault : (number_of : Kind → ℕ) (kind : Kind) → IsFault (views (take i fs)) (view f) kind
      → ((other : Kind) → IsFault (views (take i fs)) (view f) other → number_of kind ≤ number_of other)
      → IsFirstFaultBy IsFault number_of (views fs) i kind
  first_fault number_of kind stands least = record {
    earlier = views (take i fs);
    form = view f;
    later = views (drop (i + 1) fs);
    split = split_at;
    place = place_is;
    stands = stands;
    faultless = faultless;
    least = least;
  }
