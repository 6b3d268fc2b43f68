-- What a search answers.
use Rattle.std.specs.Prelude.{ℕ, ℤ, ⊤, List}
use Rattle.order_search.specs.declared.order_search.OrderOutcome.{OrderOutcome}
use Rattle.order_search.specs.declared.order_search.OrderOutcome.TheVariants.{Found, Impossible}
use Rattle.order_search.specs.declared.order_search.OrderOutcome.TheVariants.{OutOfSteps}
use Rattle.order_search.specs.declared.order_search.OrderOutcome.TheVariants.{TooLarge, NoMemory}

-- the most operations that `find_order` accepts, not counting failed ones
abbrev pub max_operations : ℕ
max_operations = 4096

-- The most operations that any search accepts, not counting failed ones: a place, and the one after
-- it, are numbers of 32 bits. No history within the limits of its form has as many.
abbrev pub max_places : ℕ
max_places = 4294967294

-- if an order was found, this holds of it
abbrev pub IfFound : OrderOutcome → (List ℤ → Type 0) → Type 0
IfFound (Found order) P = P order.items
IfFound Impossible P = ⊤
IfFound OutOfSteps P = ⊤
IfFound TooLarge P = ⊤
IfFound NoMemory P = ⊤
