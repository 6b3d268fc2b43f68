-- What a reader of maps has left of its text, and what it finds at the front of that.
use Rattle.std.specs.Prelude.{ℕ, List, Option, Some, None}
use Rattle.edn_reader.specs.Elements.{SpellsNothing}
use Rattle.edn_reader.specs.Left.{text_left, start_of}
use Rattle.history.specs.declared.client_map.OperationMap.{OperationMap}
use Rattle.history.specs.declared.map_reader.MapReader.{MapReader}
use Rattle.history.specs.UsualForms.{ReadsForm}

-- the rest of the text, after the maps that were read
abbrev pub left_in : MapReader → List ℕ
left_in r = text_left r.elements

-- the byte of the text at which the rest begins
abbrev pub start_of_map : MapReader → ℕ
start_of_map r = start_of r.elements

-- The text begins with a form that says this, and this rest follows it; or it has no form more.
abbrev pub ReadsNext : List ℕ → Option OperationMap → List ℕ → Type 0
ReadsNext text None rest = SpellsNothing text
ReadsNext text (Some said) rest = ReadsForm text said rest
