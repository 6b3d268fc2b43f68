-- The linked list of the places that are left.
use Rattle.std.specs.Prelude.{◌≡◌, ℕ, zero, suc, ◌<◌, ◌≤◌, ◌⊎◌, List, [], ◌∷◌, length, slice_set}
use Rattle.std.specs.Prelude.{get_or}
use Rattle.model.specs.Lists.{In}
use Rattle.order_search.specs.Continuations.{IsLeft}

-- slot 0, or the one after a place that is left
abbrev pub IsSlot : ℕ → List ℕ → ℕ → Type 0
IsSlot n done zero = Unit {0}
IsSlot n done (suc k) = IsLeft n done k

-- a place that is left, or the end
pub record IsStop (n : ℕ) (done : List ℕ) (q : ℕ) : Type 0 where
  pub within : q ≤ n
  pub left : q < n → In q done → ⊥

-- the places from s on and below q are done
abbrev pub IsFilledGap : List ℕ → ℕ → ℕ → Type 0
IsFilledGap done s q = (j : ℕ) → s ≤ j → j < q → In j done

-- q is the first place from s on that is left, or the end
pub record IsNextLeft (n : ℕ) (done : List ℕ) (s q : ℕ) : Type 0 where
  pub rises : s ≤ q
  pub stop : IsStop n done q
  pub gap : IsFilledGap done s q

-- s is the slot after the last place below q that is left, or slot 0
pub record IsSlotBefore (n : ℕ) (done : List ℕ) (s q : ℕ) : Type 0 where
  pub rises : s ≤ q
  pub slot : IsSlot n done s
  pub gap : IsFilledGap done s q

-- the two lists link the places that are left
pub record Linked (n : ℕ) (done : List ℕ) (nx pv : List ℕ) : Type 0 where
  pub long_next : length nx ≡ suc n
  pub long_before : length pv ≡ suc n
  pub forth : (s : ℕ) → s ≤ n → IsSlot n done s → IsNextLeft n done s (get_or nx s 0)
  pub back : (q : ℕ) → IsStop n done q → IsSlotBefore n done (get_or pv q 0) q

-- the links to the next places after `take_out` of place k
abbrev pub next_without : List ℕ → List ℕ → ℕ → List ℕ
next_without nx pv k = slice_set nx (get_or pv k 0) (get_or nx (suc k) 0)

-- the links to the previous slots after `take_out` of place k
abbrev pub before_without : List ℕ → List ℕ → ℕ → List ℕ
before_without nx pv k = slice_set pv (get_or nx (suc k) 0) (get_or pv k 0)

-- the links to the next places after `put_back` of place k
abbrev pub next_with : List ℕ → List ℕ → ℕ → List ℕ
next_with nx pv k = slice_set nx (get_or pv k 0) k

-- the links to the previous slots after `put_back` of place k
abbrev pub before_with : List ℕ → List ℕ → ℕ → List ℕ
before_with nx pv k = slice_set pv (get_or nx (suc k) 0) (suc k)

-- a place and its neighbours are within the lists
pub record AreWithin (nx pv : List ℕ) (k : ℕ) : Type 0 where
  pub here_next : suc k < length nx
  pub here_before : k < length pv
  pub next_in : get_or pv k 0 < length nx
  pub before_in : get_or nx (suc k) 0 < length pv

-- from a slot the list has these places, and then one that is not below `high`, or its end
abbrev pub LeadsThrough : List ℕ → ℕ → List ℕ → ℕ → Type 0
LeadsThrough nx s [] high = (s < length nx)
    × ((high ≤ get_or nx s 0) ⊎ (length nx ≤ suc (get_or nx s 0)))
LeadsThrough nx s (u ∷ us) high = (s < length nx) × (get_or nx s 0 ≡ u)
    × LeadsThrough nx (suc u) us high
