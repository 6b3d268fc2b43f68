-- The calls of an object that a part is about, as the history says them.
use Rattle.std.specs.Prelude.{ℕ, ◌==◌, Bool, List, filter}
use Rattle.std.specs.List.{list_any}
use Rattle.model.specs.Orders.{Call}

-- whether a call of the part has this number
abbrev pub has_number : List Call → ℕ → Bool
has_number part number = list_any (λ e. e.number == number) part

-- of these calls those that have the number of a call of the part
abbrev pub listed : List Call → List Call → List Call
listed part calls = filter (λ e. has_number part e.number) calls
