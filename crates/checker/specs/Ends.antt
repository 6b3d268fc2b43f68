-- What the ends of operations say of a walk.
use Rattle.std.specs.Prelude.{◌≡◌, ◌<◌, ◌≤◌, ℕ, Bool, true, false, List, length, Option, Some}
use Rattle.std.specs.Prelude.{is_some, slice_index_or}
use Rattle.events.specs.declared.operations.Operation.{Operation}
use Rattle.model.specs.Orders.{Return}
use Rattle.events.specs.declared.operations.End.{End}
use Rattle.events.specs.Operations.{return_of}

-- the operation returned before this number
abbrev pub IsLate : End → ℕ → Type 0
IsLate e by = (r : Return) × (return_of e ≡ Some r) × (r.at < by)

-- the operation did not return before this number, if a number is given
abbrev pub IsEarly : End → Option ℕ → Type 0
IsEarly e greatest = (r : Return) (by : ℕ) → return_of e ≡ Some r → greatest ≡ Some by → by ≤ r.at

-- each operation below place n that returned is marked
abbrev pub AreMarked : List Operation → List Bool → ℕ → Type 0
AreMarked ops marks n =
    (j : ℕ) (d : Operation) → j < n → is_some (return_of (slice_index_or ops j d).«end») ≡ true
    → slice_index_or marks j false ≡ true

-- this is the number of the first operation that returned and is not marked
pub record IsFirstUnmarked (ops : List Operation) (marks : List Bool) (number : ℕ) : Type 0 where
  pub place : ℕ
  pub within : place < length ops
  pub before : AreMarked ops marks place
  pub returned : (d : Operation) → is_some (return_of (slice_index_or ops place d).«end») ≡ true
  pub unmarked : slice_index_or marks place false ≡ false
  pub is : (d : Operation) → number ≡ (slice_index_or ops place d).number
