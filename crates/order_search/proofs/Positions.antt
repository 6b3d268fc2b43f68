-- Positions of a search, and how it goes on, by their parts.
use Rattle.std.proofs.Common.{ℕ, List}
use Rattle.model.specs.Objects.{Content}
use Rattle.order_search.specs.declared.level.Window.{Window}
use Rattle.order_search.specs.Searching.{Position, Turn}

-- where a search is, by its parts
abbrev pub position : Content → List ℕ → List ℕ → ℕ → Position
position content next back high = record { content = content; next = next; back = back; high = high }

-- how a search goes on, by its parts
abbrev pub turn : ℕ → Window → ℕ → Turn
turn at window left = record { at = at; window = window; left = left }
