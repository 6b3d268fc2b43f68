-- What a piece of a history's text says by itself, and the pieces that are joined so far.
use Rattle.std.specs.Prelude.{◌≡◌, ℕ, List, ◌++◌, length, map, Option, Some, None, All}
use Rattle.std.specs.Option.{option_or}
use Rattle.number_map.specs.Lookup.{value_of}
use Rattle.edn_reader.specs.Datum.{Datum}
use Rattle.model.specs.declared.Kind.{Kind}
use Rattle.events.specs.Operations.{IsListed}
use Rattle.history.specs.declared.seen.Process.{Process}
use Rattle.history.specs.declared.piece.FirstMap.{FirstMap}
use Rattle.history.specs.declared.piece.ReadPiece.{ReadPiece}
use Rattle.history.specs.declared.seams.Seams.{Seams}
use Rattle.history.specs.Faults.{HasGreatObject, IsFaultlessAtAnyLength}
use Rattle.history.specs.Denotes.{events_of_forms}
use Rattle.history.specs.Seen.{IsProcessFault, IsNoOther, IsSeenBy}
use Rattle.history.specs.Texts.{AreEventsRead}
use Rattle.history.specs.Views.{map_type}

-- ---- a piece after earlier maps

-- What is kept of each process, or object, after a piece: what the piece itself keeps of it, or
-- else what was kept before the piece.
abbrev pub kept_after : {V : Type 0} → (ℕ → Option V) → (ℕ → Option V) → ℕ → Option V
kept_after before own k = option_or (own k) (before k)

-- the process of this map may do what the map says, by what is kept of each process
abbrev pub IsAllowed : (ℕ → Option Process) → FirstMap → Type 0
IsAllowed processes m =
    IsProcessFault (processes m.process) (map_type m.map_type) m.function m.object None

-- A piece fits after what is kept of earlier maps: each of its processes may do what its first map
-- in the piece says, and no object is of one kind before the piece and of another in it.
pub record FitsAfter (read : ReadPiece) (processes : ℕ → Option Process) (kinds : ℕ → Option Kind)
    : Type 0 where
  pub allowed : All (IsAllowed processes) read.firsts.items
  pub of_kind : (x : ℕ) (kind : Kind) → value_of read.seen.kinds x ≡ Some kind
      → IsNoOther (kinds x) kind

-- After any forms without a fault after which the piece fits, these forms have no fault either,
-- however many they are; and what the piece keeps says what is kept after them.
abbrev pub ContinuesWhereItFits : ReadPiece → List Datum → Type 0
ContinuesWhereItFits read ds =
    (before : List Datum) (processes : ℕ → Option Process) (kinds : ℕ → Option Kind)
    → IsSeenBy processes kinds before → IsFaultlessAtAnyLength before
    → FitsAfter read processes kinds
    → IsFaultlessAtAnyLength (before ++ ds)
    × IsSeenBy (kept_after processes (value_of read.seen.processes))
    (kept_after kinds (value_of read.seen.kinds)) (before ++ ds)

-- What a piece keeps is what these forms say by themselves, whatever comes before them. The events
-- are counted from the piece's first form.
pub record IsOfForms (read : ReadPiece) (ds : List Datum) : Type 0 where
  pub count : read.maps ≡ length ds
  pub events : read.events.items ≡ events_of_forms 0 ds
  -- each process of which something is kept has a first map, and each object is listed
  pub processes : (p : ℕ) →
      IsListed (value_of read.seen.processes p) (map (λ m. m.process) read.firsts.items) p
  pub objects : (x : ℕ) → IsListed (value_of read.seen.kinds x) read.objects.items x
  pub continues : ContinuesWhereItFits read ds
  -- one text may name each object
  pub small : All (λ d. HasGreatObject d → ⊥) ds

-- ---- pieces that are joined

-- What is kept of the pieces so far is what these forms say, which have no fault.
abbrev pub AreJoined : Seams → List Datum → Type 0
AreJoined seams ds = AreEventsRead seams.seen seams.maps ds seams.events.items
