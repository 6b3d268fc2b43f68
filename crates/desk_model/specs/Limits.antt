-- How much a desk or a machine takes.
use Rattle.std.specs.Prelude.{ℕ}

-- the most objects of a desk or a machine
abbrev pub max_objects : ℕ
max_objects = 16

-- the most clients of a desk or a machine
abbrev pub max_clients : ℕ
max_clients = 32

-- the most calls of one client of a desk or a machine
abbrev pub max_calls : ℕ
max_calls = 10000
