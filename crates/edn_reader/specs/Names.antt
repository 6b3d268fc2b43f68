-- What a keyword holds.
use Rattle.std.specs.Prelude.{ℕ, List}
use Rattle.edn_reader.specs.declared.form.Name.{Name}
use Rattle.edn_reader.specs.NameTexts.{text_bytes}

-- the keyword's bytes, without its colon
abbrev pub name_bytes : Name → List ℕ
name_bytes n = text_bytes n.text
