-- Clients in the seats of a bench.
use Rattle.std.specs.Prelude.{◌≡◌, ℕ, IfSome}
use Rattle.number_map.specs.declared.NumberMap.{NumberMap}
use Rattle.number_map.specs.Lookup.{value_of}
use Rattle.publication.specs.Handles.{DeskId, Known}

-- each that has a seat is a client of the desk
abbrev pub AreSeated : DeskId → NumberMap Known → Type 0
AreSeated d seats = (n : ℕ) → IfSome (value_of seats n) (λ c. c.desk ≡ d)
