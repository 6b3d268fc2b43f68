-- How a name is in memory.
use Rattle.std.specs.Prelude.{ℕ, List, take}
use Rattle.edn_reader.specs.declared.form.Text.{Text}
use Rattle.edn_reader.specs.declared.form.Text.TheVariants.{Short, Long}

abbrev pub text_bytes : Text → List ℕ
text_bytes (Short n bytes) = take n bytes
text_bytes (Long bytes) = bytes.value.items

-- how many bytes are in place
abbrev pub short_length : Text → ℕ
short_length (Short n bytes) = n
short_length (Long bytes) = 0
