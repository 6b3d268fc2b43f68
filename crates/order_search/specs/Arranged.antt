-- The operations of a search, in the order in which it tries them.
use Rattle.std.specs.Prelude.{◌≡◌, ℕ, zero, suc, ◌<◌, ◌≤◌, ◌==◌, ◌&&◌, ◌⊎◌, not, Bool, true, false}
use Rattle.std.specs.Prelude.{Some, IsSome, List, length, is_some, get_or, if◌then◌else◌}
use Rattle.std.specs.List.{list_any}
use Rattle.model.specs.declared.Kind.{Kind}
use Rattle.model.specs.Objects.{some_op, kind_of}
use Rattle.model.specs.Orders.{Call, Return}
use Rattle.events.specs.declared.operations.Operation.{Operation}
use Rattle.events.specs.declared.operations.End.TheVariants.{Pending}
use Rattle.events.specs.Operations.{return_of}
use Rattle.order_search.specs.Outcomes.{max_places}

-- the number of a return that is not there: greater than each number of a map
abbrev pub no_return : ℕ
no_return = 4294967295

-- an operation that did not fail, as a call
abbrev pub as_call : Operation → Call
as_call o = record { number = o.number; op = o.op; returned = return_of o.«end» }

-- the call at a place; past the end, a pending call of some operation
abbrev pub call_at : List Operation → ℕ → Call
call_at items k = as_call (get_or items k (record { number = 0; op = some_op; «end» = Pending }))

-- whether the call at a place returned and is left
abbrev pub owes : (ℕ → Call) → List ℕ → ℕ → Bool
owes call done k = is_some (call k).returned && not (list_any (λ j. j == k) done)

-- how many numbers below this one pass the test
abbrev pub count_below : (ℕ → Bool) → ℕ → ℕ
count_below f zero = 0
count_below f (suc k) = if f k then suc (count_below f k) else count_below f k

-- No call from place j on was invoked before the number at j. All calls count, or only those that
-- returned.
pub record AreFloors (of_all : Bool) (items : List Operation) (floors : List ℕ) : Type 0 where
  pub long : length floors ≡ length items
  pub below : (j k : ℕ) → j ≤ k → k < length items
      → (of_all ≡ true) ⊎ IsSome (call_at items k).returned
      → get_or floors j 0 ≤ (call_at items k).number

-- The operations of a search are not too many, their floors are right, they are of the kind, and
-- each that returned did so after it was invoked. All below the place `pending` returned.
pub record IsArranged (kind : Kind) (items : List Operation) (floors return_floors : List ℕ)
    (pending : ℕ) : Type 0 where
  pub few : length items ≤ max_places
  pub floors_right : AreFloors true items floors
  pub return_floors_right : AreFloors false items return_floors
  pub within : pending ≤ length items
  pub returned : (k : ℕ) → k < pending → IsSome (call_at items k).returned
  pub of_kind : (k : ℕ) → k < length items → kind_of (call_at items k).op ≡ kind
  pub ends : (k : ℕ) (r : Return) → k < length items → (call_at items k).returned ≡ Some r
      → (call_at items k).number < r.at
