-- What a folder of shards was given.
use Rattle.std.specs.Prelude.{⊤, ◌≡◌, ℕ, ◌==◌, ◌<◌, List, [], ◌++◌, All, length, slice_index}
use Rattle.std.specs.Prelude.{Option, Some, None, if◌then◌else◌}
use Rattle.std.specs.Io.KnownBytes.{Consumes, IsAtEnd}
use Rattle.shards.specs.declared.division.Division.{Division}
use Rattle.shards.specs.Dividing.{Files, ObjectFits, IsDivided, name_in_shard, shard_among}
use Rattle.shards.specs.LargeObjects.{AreLarge, maps_on}
use Rattle.shards.specs.ShardTexts.{maps_of_shard}

-- what a call gives that adds lines to the files of one shard
abbrev pub lines_for : ℕ → List ℕ → List ℕ → Files
lines_for shard maps places = record {
  texts = λ s. if s == shard then maps else [];
  tables = λ s. if s == shard then places else [];
}

-- These were added to the files, if they are known.
abbrev pub AddsFiles : Option Files → Option Files → Files → Type 0
AddsFiles None new more = ⊤
AddsFiles (Some old) None more = ⊥
AddsFiles (Some old) (Some new) more = (s : ℕ)
    → (new.texts s ≡ old.texts s ++ more.texts s) × (new.tables s ≡ old.tables s ++ more.tables s)

-- The full history was divided into this many shards, which were added to the files, and this is
-- told: the numbers of their maps, and the objects with more maps than a text may have. The files
-- are given as they were before and after.
pub record AddsShards (count : ℕ) (told : Division) (whole : List ℕ)
    (files files_after : Option Files) : Type 0 where
  pub added : Files
  pub divided : IsDivided (shard_among count) name_in_shard whole added
  pub fits : All (ObjectFits count) divided.split.maps
  pub adds : AddsFiles files files_after added
  pub each_counted : length told.counts.items ≡ count
  pub counted : (s : ℕ) → s < count
      → slice_index told.counts.items s
      ≡ length (maps_of_shard (shard_among count) s divided.split.maps)
  pub large : AreLarge (maps_on divided.split.maps) told.large.items

-- A source was read to its end, and what it gave was divided so. What the source has left is given
-- as it was before and after.
pub record WasDivided (count : ℕ) (told : Division) (left left_after : Option (List ℕ))
    (files files_after : Option Files) : Type 0 where
  pub whole : List ℕ
  pub consumed : Consumes left left_after whole
  pub ended : IsAtEnd left_after
  pub shards : AddsShards count told whole files files_after
