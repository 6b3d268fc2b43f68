-- The number of steps that a caller names.
use Rattle.std.specs.Prelude.{ℕ, ◌==◌, if◌then◌else◌}

-- The number that means as many steps as the program takes if it is given none: the
-- greatest of 32 bits.
abbrev pub program_steps : ℕ
program_steps = 4294967295

-- the steps of a search: those that the caller names, or 1,000,000
abbrev pub search_steps : ℕ → ℕ
search_steps n = if n == program_steps then 1000000 else n
