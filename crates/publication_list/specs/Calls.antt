-- What contracts see of a roster, of its places and of its walker.
use Rattle.std.specs.Prelude.{◌≡◌, ℕ, ◌<◌, List, [], length}
use mathlib.Core.Option.{some}
use lib.ListN.{get_elem?}
use Rattle.atomic_table.specs.Seated.{TableId}
use Rattle.publication_list.specs.declared.list_table.Enlist.{Enlist}

-- a roster: which it is, and how many rows have a place
pub record RosterSeen : Type 0 where
  pub id : TableId
  pub rows : ℕ

-- a place as contracts see it: its roster, its row, and its tries
pub record PlaceSeen : Type 0 where
  pub roster : TableId
  pub row : ℕ
  -- the result of each try to enlist the row
  pub tries : List Enlist

-- a walker as contracts see it: its roster, the rows of its list, and its walks
pub record WalkerSeen : Type 0 where
  pub roster : TableId
  -- how many rows have a place
  pub places : ℕ
  -- the rows of the last walk, less those unlinked since
  pub rows : List ℕ
  -- the whole list as each walk found it
  pub walks : List (List ℕ)

-- a place for each of n rows, in rising order, at which nothing was tried
abbrev pub AreRowPlaces : TableId → ℕ → List PlaceSeen → Type 0
AreRowPlaces id n places =
    (length places ≡ n)
    × ((k : ℕ) → k < n → get_elem? places k ≡ some (record { roster = id; row = k; tries = [] }))
