-- What a new desk is made of.
use Rattle.std.specs.Prelude.{◌≡◌, ℕ, ◌+◌, ◌<◌, ◌≤◌, Bool, false, List, [], map, length}
use Rattle.std.specs.Prelude.{slice_index_or, All, vec_len, vec_capacity}
use Rattle.std.specs.declared.vec.Vec.{Vec}
use Rattle.atomic_table.specs.Seated.{TableId}
use Rattle.publication_list.specs.Calls.{PlaceSeen, WalkerSeen}
use mathlib.Core.Option.{some}
use lib.ListN.{get_elem?}
use Rattle.model.specs.declared.Kind.{Kind}
use Rattle.model.specs.Objects.{Content, empty, kind_with}
use Rattle.desk_invariant.specs.declared.board.Core.{Core}
use Rattle.desk_invariant.specs.declared.board.Journal.{Journal}
use Rattle.desk_invariant.specs.declared.board.Plan.{Plan}
use Rattle.desk_invariant.specs.declared.board.Slot.{Slot}
use Rattle.desk_invariant.specs.declared.board.Slot.TheVariants as slot
use Rattle.publication.specs.Handles.{IsRoom, fresh_places}
use Rattle.desk_model.specs.Limits.{max_objects, max_clients, max_calls}
use Rattle.desk_invariant.specs.Views.{table_slots}

module _ {S O R : Type 0} where
  -- slot x is the core of object x, with an empty log and the walker of the object's list
  abbrev pub AreCores : List S → List TableId → List (Slot S O R) → Type 0
  AreCores objects lists slots =
      (x : ℕ) (o : S) → get_elem? objects x ≡ some o
      → (k : Core S O R) × (get_elem? slots x ≡ some (slot.Core k)) × (k.object ≡ o)
      × (k.log.items ≡ []) × (get_elem? lists x ≡ some k.list.roster)

  -- The slots of a new desk are the cores of its objects, and after them nothing.
  pub record IsLaid (objects : List S) (lists : List TableId) (slots : List (Slot S O R)) : Type 0
    where
      pub long : length slots ≡ table_slots
      pub cores : AreCores objects lists slots
      pub others : (i : ℕ) → length objects ≤ i → i < table_slots
          → get_elem? slots i ≡ some slot.Nothing

-- which roster each of these walkers walks
abbrev pub rosters_of : List WalkerSeen → List TableId
rosters_of walkers = map (λ (w : WalkerSeen). w.roster) walkers

-- these are walkers of these publication lists, in this order
abbrev pub AreWalkersOf : List TableId → List WalkerSeen → Type 0
AreWalkersOf lists walkers = rosters_of walkers ≡ lists

-- each object is empty, and this is the kind of each
abbrev pub AreEmpty : {S : Type 0} → (S → Content) → List S → Type 0
AreEmpty content objects = All (λ o. content o ≡ empty (kind_with (content o))) objects

-- the kind of each object
abbrev pub kinds_with : {S : Type 0} → (S → Content) → List S → List Kind
kinds_with content objects = map (λ o. kind_with (content o)) objects

-- What a client keeps before its first call: how many calls it made, its quota, and whether one is
-- outstanding.
abbrev pub IsFresh : ℕ → ℕ → ℕ → Bool → Type 0
IsFresh quota calls most outstanding = (calls ≡ 0) × (most ≡ quota) × (outstanding ≡ false)

-- a journal for this many calls
abbrev pub HasRoom : {O R : Type 0} → ℕ → Journal O R → Type 0
HasRoom quota j = IsRoom (quota + quota) j.events

-- the plan has no more objects, clients and calls than a desk can have
abbrev pub IsSmall : Plan → Type 0
IsSmall plan =
    (length plan.kinds.items < 1 + max_objects) × (plan.clients < 1 + max_clients)
    × (plan.quota < 1 + max_calls)

-- the owner of the row c has a place of its row in each of these lists, at which nothing was tried,
-- and room for the places of all objects
abbrev pub HasPlaces : {Z : Type 0} → ℕ → List TableId → Vec PlaceSeen Z → Type 0
HasPlaces c lists v =
    (v.items ≡ fresh_places c lists) × (vec_len v ≡ length lists) × (vec_capacity v ≡ max_objects)

-- These are n owners of rows, and the row of the first has this number. Each has the places of its
-- row (`HasPlaces`).
abbrev pub AreDealt : {Z : Type 0} → ℕ → ℕ → List TableId → List (Vec PlaceSeen Z) → Type 0
AreDealt {Z} first n lists owners =
    (length owners ≡ n)
    × ((i : ℕ) (d : Vec PlaceSeen Z) → i < n
    → HasPlaces (first + i) lists (slice_index_or owners i d))
