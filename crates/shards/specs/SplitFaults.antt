-- What is wrong with a full history that was not divided.
use Rattle.std.specs.Prelude.{⊤, ◌≡◌, ◌≢◌, ℕ, ◌+◌, ◌/◌, ◌<◌, ◌≤◌, List, [], ◌∷◌, ◌++◌, length, take}
use Rattle.std.specs.Prelude.{All, Bool, true, false, Option, Some}
use Rattle.std.specs.Io.KnownBytes.{Consumes, IsAtEnd}
use Rattle.edn_reader.specs.Datum.{Datum}
use Rattle.edn_reader.specs.Laws.{SpellsBefore}
use Rattle.edn_reader.specs.Sound.{IsUnreadable}
use Rattle.edn_reader.specs.Spells.{Spells}
use Rattle.edn_reader.specs.declared.fault.EdnFault.{EdnFault}
use Rattle.edn_reader.specs.declared.fault.FaultKind.TheVariants.{TooLong, Unfinished}
use Rattle.edn.specs.FirstFaults.{IsFirstFaultBy}
use Rattle.history.specs.Faults.{IsFaultlessAtAnyLength, IsMapFault, history_fault_number}
use Rattle.history.specs.Maps.{ClientMap, client_of}
use Rattle.history.specs.declared.fault.HistoryFault.{HistoryFault}
use Rattle.history.specs.declared.fault.HistoryFaultKind.TheVariants.{TooMany}
use Rattle.history.specs.declared.fault.TextFault.{TextFault}
use Rattle.history.specs.declared.fault.TextFault.TheVariants.{Text, Maps}
use Rattle.shards.specs.declared.fault.SplitFault.{SplitFault}
use Rattle.shards.specs.declared.fault.SplitFault.TheVariants.{Read, Write, Malformed, TooFewShards}
use Rattle.shards.specs.declared.fault.SplitFault.TheVariants.{NoMemory}
use Rattle.shards.specs.Dividing.{FitsAmong, most_names}

-- the most maps of a history that can be divided
abbrev pub most_maps : ℕ
most_maps = 4294967295

-- This is the first fault of these forms; or they are more than can be divided, this is the first
-- form that is too many, and those before it have no fault.
abbrev pub IsFoundAmong : List Datum → HistoryFault → Type 0
IsFoundAmong ds f =
    (f.kind ≢ TooMany → IsFirstFaultBy IsMapFault history_fault_number ds f.map f.kind)
    × (f.kind ≡ TooMany → (f.map ≡ most_maps) × (most_maps < length ds)
    × IsFaultlessAtAnyLength (take most_maps ds))

-- What is read after a piece of a text: a line feed, or nothing if the source is at its end.
abbrev pub EndsPiece : List ℕ → Option (List ℕ) → Type 0
EndsPiece [] left = IsAtEnd left
EndsPiece (b ∷ bs) left = b ≡ 10

-- The text begins with a piece that spells forms, and this was found in them.
pub record BeginsWith (text : List ℕ) (left : Option (List ℕ)) (Found : List Datum → Type 0)
    : Type 0 where
  pub piece : List ℕ
  pub rest : List ℕ
  pub parts : text ≡ piece ++ rest
  pub ends : EndsPiece rest left
  pub forms : List Datum
  pub spelled : Spells forms piece
  pub found : Found forms

-- The text begins with a piece that spells forms, and this is their first fault, or the first form
-- that is too many.
abbrev pub HasMapFault : List ℕ → Option (List ℕ) → HistoryFault → Type 0
HasMapFault text left f = BeginsWith text left (λ ds. IsFoundAmong ds f)

-- Among these forms is the map of a client on this object, which does not fit into this many
-- shards. It is the first such map, and up to it no form has a fault.
pub record NeedsMoreShards (count : ℕ) (ds : List Datum) (x : ℕ) : Type 0 where
  pub earlier : List Datum
  pub form : Datum
  pub later : List Datum
  pub split : ds ≡ earlier ++ form ∷ later
  pub faultless : IsFaultlessAtAnyLength (earlier ++ form ∷ [])
  pub map : ClientMap
  pub client : client_of form ≡ Some map
  pub on_object : map.object ≡ x
  pub unfit : count ≤ x / most_names
  pub first : All (FitsAmong count) earlier

-- The text begins with lines of maps without a fault, and a piece after them is unreadable. The
-- place is that in the text. A piece that ends inside a form is the last, and one that is too long
-- goes as far as the text was read.
pub record HasTextFault (text : List ℕ) (left : Option (List ℕ)) (e : EdnFault) : Type 0 where
  pub front : List ℕ
  pub piece : List ℕ
  pub rest : List ℕ
  pub parts : text ≡ front ++ (piece ++ rest)
  pub forms : List Datum
  pub lines : SpellsBefore front forms
  pub faultless : IsFaultlessAtAnyLength forms
  pub place : ℕ
  pub place_is : e.place ≡ length front + place
  pub unreadable : IsUnreadable piece (record e { place = place })
  pub ends : e.kind ≢ TooLong → EndsPiece rest left
  pub last : e.kind ≡ Unfinished → rest ≡ []

-- what a fault of a text says of it, given what its source has left
abbrev pub IsFaultOf : List ℕ → Option (List ℕ) → TextFault → Type 0
IsFaultOf text left (Maps f) = HasMapFault text left f
IsFaultOf text left (Text e) = HasTextFault text left e

-- what a fault says of the text that was read of a source, given the number of the shards, and what
-- the source had left before and after
abbrev pub IsSplitFault : ℕ → SplitFault → Option (List ℕ) → Option (List ℕ) → Type 0
IsSplitFault count (Malformed fault) left left_after =
    (text : List ℕ) × Consumes left left_after text × IsFaultOf text left_after fault
IsSplitFault count (TooFewShards x) left left_after =
    (text : List ℕ) × Consumes left left_after text
    × BeginsWith text left_after (λ ds. NeedsMoreShards count ds x)
IsSplitFault count Read left left_after = ⊤
IsSplitFault count Write left left_after = ⊤
IsSplitFault count NoMemory left left_after = ⊤

-- if a fault says that its source failed, or its folder, this is so; and neither failed if
-- something is wrong with the text
abbrev pub IsSplitFailureOf : SplitFault → Bool → Bool → Type 0
IsSplitFailureOf Read source folder = source ≡ true
IsSplitFailureOf Write source folder = folder ≡ true
IsSplitFailureOf (Malformed fault) source folder = (source ≡ false) × (folder ≡ false)
IsSplitFailureOf (TooFewShards x) source folder = (source ≡ false) × (folder ≡ false)
IsSplitFailureOf NoMemory source folder = ⊤
