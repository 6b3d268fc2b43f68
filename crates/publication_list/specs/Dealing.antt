-- Places that are dealt out, row by row, to the owners of rows.
use Rattle.std.specs.Prelude.{◌≡◌, ℕ, ◌+◌, ◌<◌, ◌≤◌, List, [], ◌∷◌, ◌++◌, length, slice_index_or}
use Rattle.std.specs.Prelude.{vec_len, vec_capacity}
use Rattle.std.specs.declared.vec.Vec.{Vec}
use Rattle.atomic_table.specs.Seated.{TableId}
use Rattle.publication_list.specs.Calls.{PlaceSeen}

-- the owner of the row c has one place more, of its row in the roster of this id, and the same room
abbrev pub HasOneMore : {Z : Type 0} → TableId → ℕ → Vec PlaceSeen Z → Vec PlaceSeen Z → Type 0
HasOneMore {Z} id c old new =
    (new.items ≡ old.items ++ record { roster = id; row = c; tries = [] } ∷ [])
    × (vec_capacity new ≡ vec_capacity old) × (vec_len new ≡ vec_len old + 1)

-- each owner has one place more
abbrev pub AreGrown : {Z : Type 0} → TableId → List (Vec PlaceSeen Z) → List (Vec PlaceSeen Z)
    → Type 0
AreGrown {Z} id old new =
    (length new ≡ length old)
    × ((c : ℕ) (d : Vec PlaceSeen Z) → c < length old
    → HasOneMore id c (slice_index_or old c d) (slice_index_or new c d))

-- each owner from k on has one place more, and the others have what they had
abbrev pub AreGrownFrom : {Z : Type 0} → ℕ → TableId → List (Vec PlaceSeen Z)
    → List (Vec PlaceSeen Z) → Type 0
AreGrownFrom {Z} k id old new =
    (length new ≡ length old)
    × ((c : ℕ) (d : Vec PlaceSeen Z) → c < k → slice_index_or new c d ≡ slice_index_or old c d)
    × ((c : ℕ) (d : Vec PlaceSeen Z) → k ≤ c → c < length old
    → HasOneMore id c (slice_index_or old c d) (slice_index_or new c d))

-- each owner has room for one place more
abbrev pub HaveRoom : {Z : Type 0} → List (Vec PlaceSeen Z) → Type 0
HaveRoom {Z} owners =
    (c : ℕ) (d : Vec PlaceSeen Z) → c < length owners
    → vec_len (slice_index_or owners c d) < vec_capacity (slice_index_or owners c d)
