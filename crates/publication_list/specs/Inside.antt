-- What holds of the fields of a place and of a walker, and in the middle of a walk.
use Rattle.std.specs.Prelude.{◌≡◌, ℕ, ◌<◌, ◌≤◌, Bool, true, false, List, [], ◌∷◌, ◌++◌, length}
use Rattle.std.specs.Prelude.{slice_index, take, None, vec_capacity}
use Rattle.std.specs.declared.vec.Vec.{Vec}
use Rattle.atomic_table.specs.Table.{Me}
use Rattle.publication_list.specs.declared.list_table.Enlist.{Enlist}
use Rattle.publication_list.specs.declared.list_table.Enlist.TheVariants.{Already, Listed, Missed}
use Rattle.publication_list.specs.declared.list_table.RowKnowledge.{RowKnowledge}
use Rattle.publication_list.specs.declared.list_table.RowKnowledge.TheVariants as own
use Rattle.publication_list.specs.declared.list_table.ListView.{ListView}
use Rattle.publication_list.specs.declared.list_table.ListView.TheVariants as view
use Rattle.publication_list.specs.PublicationList.{WalkMeets, word_at}
use Rattle.publication_list.specs.Limits.{max_rows}

-- what a place has tried
abbrev pub tries_of : ListView → List Enlist
tries_of (view.Place row o tries) = tries
tries_of v = []

-- A row is between two tries to enlist it: its owner knows that it is awake if a try missed, and
-- otherwise knows nothing of it.
abbrev pub OwnAtRest : Bool → RowKnowledge → Type 0
OwnAtRest false o = o ≡ own.Unknown
OwnAtRest true o = (n : ℕ) × (o ≡ own.Awake n)

-- The fields of the place of this row agree with what its owner knows.
abbrev pub IsRowPlace : {S : Type 0} → ℕ → Bool → List Enlist → Me S ListView → Type 0
IsRowPlace row trying tries me =
    (row < max_rows)
    × ((o : RowKnowledge) × (me ≡ (view.Place row o tries, [])) × OwnAtRest trying o)

-- the tries of a place after a look at its mark: if the row was not asleep, the try is over
abbrev pub after_look : Bool → List Enlist → List Enlist
after_look true tries = tries
after_look false tries = tries ++ Already ∷ []

-- whether the try to enlist a row missed
abbrev pub is_missed : Enlist → Bool
is_missed Already = false
is_missed Listed = false
is_missed Missed = true

-- the rows of the list as the walker knows them
abbrev pub list_left : ListView → List ℕ
list_left (view.Walker made left out walks) = left
list_left v = []

-- how many rows have a place, as the walker knows
abbrev pub made_of : ListView → ℕ
made_of (view.Walker made left out walks) = made
made_of v = 0

-- the rows that each walk of the walker met
abbrev pub walks_of : ListView → List (List ℕ)
walks_of (view.Walker made left out walks) = walks
walks_of v = []

-- the walker has met these rows, and has marked all that it has taken out
abbrev pub HasMetRows : {S : Type 0} → List ℕ → List (List ℕ) → Me S ListView → Type 0
HasMetRows rows walks me = me ≡ (view.Walker (made_of me.0) rows None walks, [])

-- In a walk these rows were met so far, if the last one left `left`, and the word `at` leads on.
pub record Meeting {S : Type 0} (left : List ℕ) (walks : List (List ℕ)) (places : ℕ) (rows : List ℕ)
    (at : ℕ) (me : Me S ListView) : Type 0 where
  pub met : HasMetRows (list_left me.0) (walks ++ list_left me.0 ∷ []) me
  pub made : made_of me.0 ≡ places
  pub walk : WalkMeets left (list_left me.0)
  pub low : (k : ℕ) → k < length (list_left me.0) → slice_index (list_left me.0) k < places
  pub few : length (list_left me.0) ≤ places
  pub so_far : rows ≡ take (length rows) (list_left me.0)
  pub within : length rows ≤ length (list_left me.0)
  pub at_is : at ≡ word_at (list_left me.0) (length rows)

-- The fields of a walker between two walks agree with what it knows.
pub record IsWalker {S Z : Type 0} (places : ℕ) (rows : Vec ℕ Z) (walks : List (List ℕ))
    (me : Me S ListView) : Type 0 where
  pub within : length rows.items ≤ places
  pub met : me ≡ (view.Walker places rows.items None walks, [])
  pub few : places ≤ max_rows
  pub room : places ≤ vec_capacity rows
  pub low : (k : ℕ) → k < length rows.items → slice_index rows.items k < places
