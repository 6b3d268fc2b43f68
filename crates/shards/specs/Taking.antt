-- What a history's text is while it is divided. No public clause names these.
use Rattle.std.specs.Prelude.{⊤, ◌≡◌, ◌≢◌, ℕ, ◌+◌, ◌<◌, ◌==◌, List, [], ◌∷◌, ◌++◌, All, length}
use Rattle.std.specs.Prelude.{decimal, get_or, map, Option}
use Rattle.edn_reader.specs.Datum.{Datum}
use Rattle.edn_reader.specs.Sound.{IsUnreadable}
use Rattle.edn_reader.specs.Spells.{Spells}
use Rattle.edn_reader.specs.declared.fault.FaultKind.TheVariants as edn_kind
use Rattle.history.specs.LongReading.{AreReadAtAnyLength}
use Rattle.history.specs.declared.fault.HistoryFaultKind.TheVariants as history_kind
use Rattle.history.specs.declared.fault.TextFault.TheVariants.{Text, Maps}
use Rattle.shards.specs.declared.divider.Divider.{Divider}
use Rattle.shards.specs.declared.fault.PieceFault.{PieceFault}
use Rattle.shards.specs.declared.fault.PieceFault.TheVariants.{Malformed, TooFewShards}
use Rattle.shards.specs.declared.waiting.Waiting.{Waiting}
use Rattle.shards.specs.Dividing.{Files, ObjectFits, name_in_shard, places_from, shard_among}
use Rattle.shards.specs.Dividing.{table_text}
use Rattle.shards.specs.Folders.{AddsFiles, lines_for}
use Rattle.shards.specs.LargeObjects.{maps_on}
use Rattle.shards.specs.ShardTexts.{IsSpelled, SaysRenamed, SpelledMap, map_lines, maps_of_shard}
use Rattle.shards.specs.SplitFaults.{IsFoundAmong, NeedsMoreShards}
use Rattle.shards.specs.Tallies.{IsTally}

-- ---- what waits to be written of one shard

-- The lines at the front of what waited were added to the files of this shard.
pub record Flushes (shard : ℕ) (old new : Waiting) (files files_after : Option Files) : Type 0 where
  pub maps : List ℕ
  pub places : List ℕ
  pub of_maps : old.maps.items ≡ maps ++ new.maps.items
  pub of_places : old.places.items ≡ places ++ new.places.items
  pub count : new.count ≡ old.count
  pub adds : AddsFiles files files_after (lines_for shard maps places)

-- ---- what waits of each shard

-- the lines of shard s's text that wait to be written
abbrev pub waiting_maps : List Waiting → ℕ → List ℕ
waiting_maps ws s = get_or (map (λ w. w.maps.items) ws) s []

-- the lines of shard s's table that wait to be written
abbrev pub waiting_places : List Waiting → ℕ → List ℕ
waiting_places ws s = get_or (map (λ w. w.places.items) ws) s []

-- how many maps a shard has, with those that were written
abbrev pub maps_in : List Waiting → ℕ → ℕ
maps_in ws s = get_or (map (λ w. w.count) ws) s 0

-- no lines wait, of any shard
pub record NoneWait (ws : List Waiting) : Type 0 where
  pub maps : (s : ℕ) → waiting_maps ws s ≡ []
  pub places : (s : ℕ) → waiting_places ws s ≡ []

-- a map with its place was added to what waits of one shard
pub record AddsLine (shard : ℕ) (text : List ℕ) (place : ℕ) (old new : List Waiting) : Type 0 where
  pub long : length new ≡ length old
  pub maps : waiting_maps new shard ≡ waiting_maps old shard ++ (text ++ 10 ∷ [])
  pub places : waiting_places new shard ≡ waiting_places old shard ++ (decimal place ++ 10 ∷ [])
  pub count : maps_in new shard ≡ maps_in old shard + 1
  pub other_maps : (s : ℕ) → s ≢ shard → waiting_maps new s ≡ waiting_maps old s
  pub other_places : (s : ℕ) → s ≢ shard → waiting_places new s ≡ waiting_places old s
  pub other_counts : (s : ℕ) → s ≢ shard → maps_in new s ≡ maps_in old s

-- A map of a client on this object was added, with its place, to what waits of its shard: as it is
-- written there.
pub record AddsMap (count : ℕ) (d : Datum) (object place : ℕ) (old new : List Waiting) : Type 0
  where
    pub own : Datum
    pub text : List ℕ
    pub says : SaysRenamed name_in_shard d own
    pub spells : Spells (own ∷ []) text
    pub adds : AddsLine (shard_among count object) text place old new

-- ---- the maps that were taken

-- the forms of the maps
abbrev pub forms_of : List SpelledMap → List Datum
forms_of maps = map (λ m. m.form) maps

-- files in which no shard has anything
abbrev pub no_lines : Files
no_lines = record { texts = λ s. []; tables = λ s. [] }

-- the files with these lines added at the end of each
abbrev pub with_more : Files → Files → Files
with_more files more = record {
  texts = λ s. files.texts s ++ more.texts s;
  tables = λ s. files.tables s ++ more.tables s;
}

-- These maps were taken, and divided into this many shards. Of the files of each shard some lines
-- were written, and the others wait.
pub record AreMapsTaken (count : ℕ) (d : Divider) (maps : List SpelledMap) (written : Files) :
    Type 0
  where
    pub shards : d.shards ≡ count
    pub read : AreReadAtAnyLength d.reader (forms_of maps)
    pub each : All (IsSpelled name_in_shard) maps
    pub fit : All (ObjectFits count) maps
    pub tally : IsTally d.tally (maps_on maps)
    pub texts : (s : ℕ) → written.texts s ++ waiting_maps d.waiting.items s
        ≡ map_lines (maps_of_shard (shard_among count) s maps)
    pub tables : (s : ℕ) → written.tables s ++ waiting_places d.waiting.items s
        ≡ table_text (places_from 0 (λ x. shard_among count x == s) (forms_of maps))
    pub counts : (s : ℕ) → s < count → maps_in d.waiting.items s
        ≡ length (maps_of_shard (shard_among count) s maps)

-- One map more was taken, of this form.
abbrev pub AreTakenWith : Datum → ℕ → Divider → List SpelledMap → Files → Type 0
AreTakenWith d count new maps written =
    (m : SpelledMap) × (m.form ≡ d) × AreMapsTaken count new (maps ++ m ∷ []) written

-- A piece spells more maps after those that were taken, and these were taken too.
pub record AreTakenOf (piece : List ℕ) (count : ℕ) (d : Divider) (maps : List SpelledMap)
    (written : Files) : Type 0 where
  pub more : List SpelledMap
  pub spells : Spells (forms_of more) piece
  pub taken : AreMapsTaken count d (maps ++ more) written

-- Maps were taken, and lines of theirs that waited were added to the files.
pub record AreTakenAfter (count : ℕ) (d : Divider) (maps : List SpelledMap) (written : Files)
    (files files_after : Option Files) : Type 0 where
  pub more : Files
  pub adds : AddsFiles files files_after more
  pub taken : AreMapsTaken count d maps (with_more written more)

-- a fault of a piece after these forms: it is unreadable, or it spells more forms, in which this
-- was found
abbrev pub IsPieceFault : ℕ → List Datum → List ℕ → PieceFault → Type 0
IsPieceFault count ds text (Malformed (Text e)) =
    e.kind ≢ edn_kind.NoMemory → IsUnreadable text e
IsPieceFault count ds text (Malformed (Maps f)) = f.kind ≢ history_kind.NoMemory
    → (es : List Datum) × Spells es text × IsFoundAmong (ds ++ es) f
IsPieceFault count ds text (TooFewShards x) =
    (es : List Datum) × Spells es text × NeedsMoreShards count (ds ++ es) x

-- what was found in forms, the last of which is the map that was taken last
abbrev pub IsMapFoundAmong : ℕ → List Datum → PieceFault → Type 0
IsMapFoundAmong count ds (Malformed (Text e)) = ⊥
IsMapFoundAmong count ds (Malformed (Maps f)) = f.kind ≢ history_kind.NoMemory → IsFoundAmong ds f
IsMapFoundAmong count ds (TooFewShards x) = NeedsMoreShards count ds x

-- the fault is that a piece is unreadable, and not one of its maps
abbrev pub IsOfPiece : PieceFault → Type 0
IsOfPiece (Malformed (Text e)) = ⊤
IsOfPiece (Malformed (Maps f)) = ⊥
IsOfPiece (TooFewShards x) = ⊥
