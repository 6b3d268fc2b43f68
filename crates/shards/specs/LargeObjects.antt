-- Objects that have more maps of clients than a text may have.
use Rattle.std.specs.Prelude.{◌≡◌, ℕ, ◌==◌, ◌<◌, List, All, AllPairs, Contains, length, map, filter}
use Rattle.history.specs.Faults.{max_maps}
use Rattle.shards.specs.declared.division.LargeObject.{LargeObject}
use Rattle.shards.specs.Forms.{is_on}
use Rattle.shards.specs.ShardTexts.{SpelledMap}

-- how many of these maps are of clients on an object
abbrev pub maps_on : List SpelledMap → ℕ → ℕ
maps_on maps x = length (filter (λ m. is_on (λ y. y == x) m.form) maps)

-- If each object has this many maps, these are the objects with more maps than a text may have,
-- and no others, in rising number.
pub record AreLarge (counts : ℕ → ℕ) (large : List LargeObject) : Type 0 where
  pub rising : AllPairs (λ a b. a.object < b.object) large
  pub counted : All (λ o. o.maps ≡ counts o.object) large
  pub more : All (λ o. max_maps < o.maps) large
  pub each : (x : ℕ) → max_maps < counts x → Contains (map (λ o. o.object) large) x
