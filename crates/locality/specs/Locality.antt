-- What locality speaks of: an object's operations in a history have a valid order.
use Rattle.std.specs.Prelude.{ℕ, ℤ, List}
use Rattle.model.specs.declared.Kind.{Kind}
use Rattle.model.specs.Specification.{Specification}
use Rattle.model.specs.Objects.{any}
use Rattle.model.specs.Orders.{Numbered, calls_on, IsValidOrderOf}

-- some order of the operations on this object is valid
abbrev pub HasValidOrderOf : (ℕ → Specification) → List Numbered → ℕ → Type 0
HasValidOrderOf objects h x = (order : List ℤ) × IsValidOrderOf (objects x) (calls_on x h) order

-- some order of the operations on this object is valid, and each object is of one of the kinds here
abbrev pub HasValidOrder : (ℕ → Kind) → List Numbered → ℕ → Type 0
HasValidOrder kinds h x = HasValidOrderOf (λ y. any (kinds y)) h x
