-- What was read of a source, and of a history's.
use Rattle.std.specs.Prelude.{◌≡◌, ◌+◌, ◌<◌, ℕ, Bool, true, false, List, Option}
use Rattle.std.specs.Io.KnownBytes.{Consumes}
use Rattle.edn.specs.Given.{WasRead}
use Rattle.edn_reader.specs.Datum.{max_length}
use Rattle.reading.specs.Texts.{IsLinearizableText, IsNotLinearizableText}
use Rattle.reading.specs.declared.from_source.ReadFault.{ReadFault}
use Rattle.reading.specs.declared.from_source.ReadFault.TheVariants.{Failed, NoMemory}

-- one byte more than the longest text that is judged
abbrev pub read_limit : ℕ
read_limit = max_length + 1

-- what a fault says about its source: it failed, or an allocation failed and it did not
abbrev pub SourceAfterFault : Bool → ReadFault → Type 0
SourceAfterFault broken Failed = broken ≡ true
SourceAfterFault broken NoMemory = broken ≡ false

-- Reading stopped if the source refused a call: some bytes were given before, and the call had
-- room for at least one.
pub record WasRefused {S : Type 0} (remaining : S → Option (List ℕ)) (refuses : S → ℕ → S → Type 0)
    (old new : S) : Type 0 where
  pub before : S
  pub given : List ℕ
  pub consumed : Consumes (remaining old) (remaining before) given
  pub room : ℕ
  pub some : 0 < room
  pub refused : refuses before room new

-- The text of a history was read, and the history that it denotes is linearizable.
abbrev pub IsLinearizableRead : Option (List ℕ) → Option (List ℕ) → Type 0
IsLinearizableRead history history_left =
    (text : List ℕ) × WasRead read_limit history history_left text × IsLinearizableText text

-- The text of a history was read, and the history that it denotes is not linearizable.
abbrev pub IsNotLinearizableRead : Option (List ℕ) → Option (List ℕ) → Type 0
IsNotLinearizableRead history history_left =
    (text : List ℕ) × WasRead read_limit history history_left text × IsNotLinearizableText text
