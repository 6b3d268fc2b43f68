-- What a reader of a history of any length has read.
use Rattle.std.specs.Prelude.{◌≡◌, ◌⊎◌, List, length}
use Rattle.edn_reader.specs.Datum.{Datum}
use Rattle.history.specs.declared.fault.HistoryFaultKind.{HistoryFaultKind}
use Rattle.history.specs.declared.fault.HistoryFaultKind.TheVariants.{TooMany, NoMemory}
use Rattle.history.specs.declared.long_reader.LongReader.{LongReader}
use Rattle.history.specs.Faults.{IsFaultlessAtAnyLength}
use Rattle.history.specs.Seen.{IsSeen}

-- These forms were read, and no others. They have no fault, however many they are, and what is kept
-- is what they say.
pub record AreReadAtAnyLength (reader : LongReader) (ds : List Datum) : Type 0 where
  pub kept : IsSeen reader.seen ds
  pub faultless : IsFaultlessAtAnyLength ds
  pub count : length ds ≡ reader.maps

-- the fault is not in the map: there is one map too many, or an allocation failed
abbrev pub IsOfPlace : HistoryFaultKind → Type 0
IsOfPlace kind = (kind ≡ TooMany) ⊎ (kind ≡ NoMemory)
