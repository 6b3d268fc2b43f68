-- What is written of a record.
use Rattle.std.specs.Prelude.{◌≡◌, ℕ, List, Option, All}
use Rattle.std.specs.Io.KnownBytes.{Appends}
use Rattle.edn.specs.Sent.{WritesPrefix}
use Rattle.edn_reader.specs.Text.{InProfile}
use Rattle.desk_model.specs.World.{AnyEvent}
use Rattle.transcript.specs.declared.line.Line.{Line}
use Rattle.transcript.specs.Lines.{AreLinesOf, form_of, history_text}

-- The text of the journals' lines, in order of tickets. Each has integers and names that a text can
-- have.
pub record IsHistoryText (journals : ℕ → List AnyEvent) (text : List ℕ) : Type 0 where
  pub lines : List Line
  pub are_lines : AreLinesOf journals lines
  pub text_is : text ≡ history_text lines
  pub in_profile : All (λ l. InProfile (form_of l)) lines

-- the text of the journals' lines was sent after what was sent before
pub record AppendsHistory (journals : ℕ → List AnyEvent) (old new : Option (List ℕ)) : Type 0 where
  pub text : List ℕ
  pub of_journals : IsHistoryText journals text
  pub sent : Appends old new text

-- a beginning of the text of the journals' lines was sent after what was sent before
pub record SendsFrontOfHistory (journals : ℕ → List AnyEvent) (old new : Option (List ℕ)) : Type 0
  where
    pub text : List ℕ
    pub of_journals : IsHistoryText journals text
    pub sent : WritesPrefix old new text
