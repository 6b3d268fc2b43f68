-- What the commands on a folder of shards print.
use Rattle.std.specs.Prelude.{◌≡◌, ◌<◌, ◌⊎◌, ◌++◌, ℕ, false, List, Option, get_or, length, nat_lt}
use Rattle.std.specs.Prelude.{⊤, if◌then◌else◌, slice_index}
use Rattle.std.specs.List.{list_any}
use Rattle.history.specs.Faults.{max_maps}
use Rattle.history.specs.declared.fault.TextFault.{TextFault}
use Rattle.history.specs.declared.fault.TextFault.TheVariants.{Text, Maps}
use Rattle.report.specs.Lines.{verdict_text}
use Rattle.reading.specs.declared.text_failure.Fault.{Fault}
use Rattle.reading.specs.declared.text_failure.Fault.TheVariants.{HistoryText, HistoryMaps}
use Rattle.report.specs.declared.verdict.Verdict.TheVariants as verdict
use Rattle.shards.specs.Dividing.{Files, IsDivided, name_in_shard, shard_among}
use Rattle.shards.specs.Folders.{WasDivided}
use Rattle.shards.specs.ShardTexts.{SpelledMap, map_lines, maps_of_shard}
use Rattle.shards.specs.SplitFaults.{IsSplitFault}
use Rattle.shards.specs.declared.division.Division.{Division}
use Rattle.shards.specs.declared.fault.SplitFault.TheVariants as split
use Rattle.file_commands.specs.declared.folders.SplitFailure.{SplitFailure}
use Rattle.file_commands.specs.declared.folders.SplitFailure.TheVariants as failure
use Rattle.history_commands.specs.Merged.{IsMerge, Shard}
use Rattle.history_commands.specs.Outputs.{IsExactly, IsOutOfMemory}
use Rattle.history_commands.specs.declared.status.Status.{Status}
use Rattle.history_commands.specs.declared.status.Status.TheVariants as ends

-- the fault of a history's text, as a verdict has it
abbrev pub fault_of : TextFault → Fault
fault_of (Text e) = HistoryText e
fault_of (Maps f) = HistoryMaps f

-- the line that says that the text of a history has this fault
abbrev pub split_fault_line : TextFault → List ℕ
split_fault_line f = verdict_text false (verdict.Malformed (fault_of f))

-- how a split ends into shards with these numbers of maps: undecided, if one has more than a
-- text may have
abbrev pub status_by_counts : List ℕ → Status
status_by_counts counts =
    if list_any (λ n. nat_lt max_maps n) counts then ends.Undecided else ends.Yes

-- The output of a split. The full history was divided, into shards with these numbers of maps, and
-- a status other than yes says that a shard is too large for one text; or the full history is
-- malformed. What the source has left, and the files, are given as they were before and after.
abbrev pub IsSplitOutput : ℕ → Option (List ℕ) → Option (List ℕ) → Option Files → Option Files
    → List ℕ → Status → List ℕ → Type 0
IsSplitOutput count left left_after files files_after counts status out =
    ((told : Division) × WasDivided count told left left_after files files_after
    × (counts ≡ told.counts.items) × (status ≡ status_by_counts told.counts.items))
    ⊎ ((f : TextFault) × IsSplitFault count (split.Malformed f) left left_after
    × IsExactly ends.Malformed (split_fault_line f) status out)

-- If a split says that an object needs more shards, this is so: what was read of the source has
-- a map on it.
abbrev pub IsWhereTooFewShards : ℕ → SplitFailure → Option (List ℕ) → Option (List ℕ) → Type 0
IsWhereTooFewShards count (failure.TooFewShards x) left left_after =
    IsSplitFault count (split.TooFewShards x) left left_after
IsWhereTooFewShards count failure.Unread left left_after = ⊤
IsWhereTooFewShards count failure.Unwritten left left_after = ⊤
IsWhereTooFewShards count failure.NoMemory left left_after = ⊤

-- ---- a merge

-- What the files of a folder may hold: of a shard with this number, this text, table and evidence.
abbrev pub FolderContents : Type 1
FolderContents = ℕ → List ℕ → List ℕ → List ℕ → Type 0

-- this was read as the shard with this number, of those that were given these numbers of maps, if a
-- search has this limit
abbrev pub IsReadAs : FolderContents → List ℕ → ℕ → ℕ → Shard → Type 0
IsReadAs holds counts limit number s =
    (s.number ≡ number) × (s.count ≡ length counts) × (s.maps ≡ slice_index counts number)
    × (s.limit ≡ limit) × holds number s.text s.table s.evidence

-- these shards were read, in the order of their numbers
abbrev pub AreShardsRead : FolderContents → List ℕ → ℕ → List Shard → Type 0
AreShardsRead holds counts limit shards =
    (k : ℕ) (d : Shard) → k < length shards → IsReadAs holds counts limit k (get_or shards k d)

-- the output of a merge of the shards that were given these numbers of maps, and were read
abbrev pub IsMergeOf : FolderContents → List ℕ → ℕ → Status → List ℕ → Type 0
IsMergeOf holds counts limit status out =
    (shards : List Shard) × (length shards ≡ length counts)
    × AreShardsRead holds counts limit shards × IsMerge shards status out

-- the output of a merge of the shards that were given these numbers of maps, and were read; or one
-- line says that an allocation failed
abbrev pub IsMergeOfFolder : FolderContents → List ℕ → ℕ → Status → List ℕ → Type 0
IsMergeOfFolder holds counts limit status out =
    IsMergeOf holds counts limit status out ⊎ IsOutOfMemory status out

-- each shard was read with a text to which this applies, with the number of maps that it was given
abbrev pub AreMapsCounted : FolderContents → (ℕ → List ℕ → Type 0) → List ℕ → Type 0
AreMapsCounted holds IsCounted counts = (s : ℕ) → s < length counts
    → (text table evidence : List ℕ) × holds s text table evidence
    × IsCounted (slice_index counts s) text

-- these files are the shards of a full history, as a split of it makes them
abbrev pub AreShardsOf : ℕ → List ℕ → Files → Type 0
AreShardsOf count whole files = IsDivided (shard_among count) name_in_shard whole files

-- The files hold the first lines of the texts of the shards of a full history: of each text all
-- lines, or fewer, or none. The shards were given these numbers of maps, as a split tells them.
pub record FolderHoldsLines (holds : FolderContents) (counts whole : List ℕ) : Type 0 where
  pub files : Files
  pub shards : AreShardsOf (length counts) whole files
  pub counted : (s : ℕ) → s < length counts → slice_index counts s
      ≡ length (maps_of_shard (shard_among (length counts)) s shards.split.maps)
  pub lines : (s : ℕ) (text table evidence : List ℕ) → s < length counts
      → holds s text table evidence → (kept lost : List SpelledMap)
      × (maps_of_shard (shard_among (length counts)) s shards.split.maps ≡ kept ++ lost)
      × (text ≡ map_lines kept)

-- The files hold the texts of the shards of a full history.
abbrev pub FolderHoldsSplit : FolderContents → ℕ → List ℕ → Type 0
FolderHoldsSplit holds count whole =
    (files : Files) × AreShardsOf count whole files
    × ((s : ℕ) (text table evidence : List ℕ) → s < count → holds s text table evidence
    → text ≡ files.texts s)
