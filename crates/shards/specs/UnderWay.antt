-- How far a history's text is read and divided. No public clause names these.
use Rattle.std.specs.Prelude.{⊤, ◌≡◌, ◌≢◌, ℕ, ◌+◌, List, ◌∷◌, ◌++◌, length, Option, true}
use Rattle.std.specs.Io.KnownBytes.{Consumes, IsAtEnd}
use Rattle.edn_reader.specs.Laws.{SpellsBefore}
use Rattle.edn_reader.specs.declared.fault.FaultKind.TheVariants as edn_kind
use Rattle.history.specs.declared.fault.HistoryFaultKind.TheVariants as history_kind
use Rattle.history.specs.declared.fault.TextFault.{TextFault}
use Rattle.history.specs.declared.fault.TextFault.TheVariants.{Text, Maps}
use Rattle.shards.specs.declared.divider.Divider.{Divider}
use Rattle.shards.specs.declared.fault.SplitFault.{SplitFault}
use Rattle.shards.specs.declared.fault.SplitFault.TheVariants.{Read, Write, Malformed, TooFewShards}
use Rattle.shards.specs.declared.fault.SplitFault.TheVariants.{NoMemory}
use Rattle.shards.specs.declared.fault.PieceFault.{PieceFault}
use Rattle.shards.specs.declared.fault.PieceFault.TheVariants as piece
use Rattle.shards.specs.declared.pieces.Pieces.{Pieces}
use Rattle.shards.specs.Dividing.{Files}
use Rattle.shards.specs.ShardTexts.{SpelledMap}
use Rattle.shards.specs.SplitFaults.{BeginsWith, IsFaultOf, NeedsMoreShards}
use Rattle.shards.specs.Taking.{AreMapsTaken, forms_of}

-- More was read of a source: what it had left before, and has left after.
pub record ReadsOn (old new : Pieces) (left left_after : Option (List ℕ)) : Type 0 where
  pub more : List ℕ
  pub consumed : Consumes left left_after more
  pub text : new.text.items ≡ old.text.items ++ more
  pub start : new.start ≡ old.start
  pub ended : new.is_ended ≡ true → IsAtEnd left_after

-- The piece at the front of the pieces is gone, and the line feed after it.
pub record PassesPiece (old new : Pieces) (piece : List ℕ) : Type 0 where
  pub text : old.text.items ≡ piece ++ 10 ∷ new.text.items
  pub start : new.start ≡ old.start + (length piece + 1)
  pub ended : new.is_ended ≡ old.is_ended

-- The pieces are unchanged: nothing more was read, and none is gone.
pub record StaysAs (old new : Pieces) : Type 0 where
  pub text : new.text.items ≡ old.text.items
  pub start : new.start ≡ old.start
  pub ended : new.is_ended ≡ old.is_ended

-- This text was read. Its whole lines at the front are divided, and the pieces have the rest.
pub record AreUnderWay (count : ℕ) (d : Divider) (p : Pieces) (text : List ℕ) (written : Files)
    : Type 0 where
  pub front : List ℕ
  pub maps : List SpelledMap
  pub parts : text ≡ front ++ p.text.items
  pub start : p.start ≡ length front
  pub lines : SpellsBefore front (forms_of maps)
  pub taken : AreMapsTaken count d maps written

-- the text ends inside a form
abbrev pub EndsInsideForm : PieceFault → Type 0
EndsInsideForm (piece.Malformed (Text e)) = e.kind ≡ edn_kind.Unfinished
EndsInsideForm (piece.Malformed (Maps f)) = ⊥
EndsInsideForm (piece.TooFewShards x) = ⊥

-- what was read from this place on is too long
abbrev pub too_long_at : ℕ → TextFault
too_long_at start = Text (record { kind = edn_kind.TooLong; place = start })

-- a fault found in a piece that begins at `start`, as a fault of the full history: its place is
-- moved by `start`
abbrev pub IsFaultFrom : ℕ → PieceFault → SplitFault → Type 0
IsFaultFrom start fault (Malformed (Text e)) = (place : ℕ) × (e.place ≡ start + place)
    × (fault ≡ piece.Malformed (Text (record e { place = place }))) × (e.kind ≢ edn_kind.NoMemory)
IsFaultFrom start fault (Malformed (Maps f)) =
    (fault ≡ piece.Malformed (Maps f)) × (f.kind ≢ history_kind.NoMemory)
IsFaultFrom start fault (TooFewShards x) = fault ≡ piece.TooFewShards x
IsFaultFrom start fault Read = ⊥
IsFaultFrom start fault Write = ⊥
IsFaultFrom start fault NoMemory = ⊤

-- what a fault says of the text that was read, given the number of the shards, and what the source
-- has left
abbrev pub IsFaultIn : ℕ → List ℕ → Option (List ℕ) → SplitFault → Type 0
IsFaultIn count text left (Malformed fault) = IsFaultOf text left fault
IsFaultIn count text left (TooFewShards x) = BeginsWith text left (λ ds. NeedsMoreShards count ds x)
IsFaultIn count text left Read = ⊤
IsFaultIn count text left Write = ⊤
IsFaultIn count text left NoMemory = ⊤

-- the source or the folder failed, or an allocation did: no clause says anything about the text
abbrev pub IsOfHost : SplitFault → Type 0
IsOfHost (Malformed fault) = ⊥
IsOfHost (TooFewShards x) = ⊥
IsOfHost Read = ⊤
IsOfHost Write = ⊤
IsOfHost NoMemory = ⊤
