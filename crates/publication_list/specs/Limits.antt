-- How long a publication list is, and where its words are.
use Rattle.std.specs.Prelude.{ℕ, ◌+◌}

-- how many rows a list has at most
abbrev pub max_rows : ℕ
max_rows = 32

-- how many words the table has
abbrev pub list_words : ℕ
list_words = 65

-- the word that is the mark of a row
abbrev pub mark_place : ℕ → ℕ
mark_place r = 33 + r
