-- Valid orders of the objects that are called are enough (`linearizable_from_called_objects`): an object without calls
-- has the empty order, which is valid.
use Rattle.std.proofs.Common.{◌≡◌, ℕ, ◌==◌, List, [], ◌∷◌, filter, All, refl, arith, inl}
use Rattle.std.proofs.lemmas.Bool.{eqb-true}
use Rattle.model.specs.Specification.{Specification}
use Rattle.model.specs.Orders.{Numbered, events, ProcessCall, calls_in, IsHistory, IsValidOrderOf}
use Rattle.model.specs.Linearizable.{IsLinearizableFor}
use Rattle.model.specs.Lists.{In}
use Rattle.model.proofs.Lists.{in_filter, in_filter_passes, all_at}
use Rattle.locality.specs.Locality.{HasValidOrderOf}
use Rattle.locality.proofs.Linearization.{linearizable_from_orders}

-- an object without calls has the empty order
valid_nothing : (object : Specification) → IsValidOrderOf object [] []
valid_nothing object = record {
  entries = [];
  numbers = refl;
  known = λ k d l. absurd (omega arith);
  once = λ i j d l m. absurd (omega arith);
  whole = λ k d l. absurd (omega arith);
  in_order = λ i j d l m. absurd (omega arith);
  replies = tt;
}

-- an object has a call, and so an order, or it has none
order_of : (objects : ℕ → Specification) (h : List Numbered) (x : ℕ) (on_x : List ProcessCall)
    → filter (λ e. e.object == x) (calls_in h) ≡ on_x
    → All (λ e. HasValidOrderOf objects h e.object) (calls_in h) → HasValidOrderOf objects h x
order_of objects h x [] e valid = (
  [],
  rw e (valid_nothing (objects x)),
)
order_of objects h x (call ∷ others) e valid =
    let among : In call (filter (λ e. e.object == x) (calls_in h)) = rw e (inl refl) in
    rw (eqb-true call.object x (in_filter_passes (λ e. e.object == x) call (calls_in h) among)) at
    (all_at (λ e. HasValidOrderOf objects h e.object) (calls_in h) valid call
    (in_filter (λ e. e.object == x) call (calls_in h) among))

-- a history is linearizable if each object that it calls has a valid order
pub linearizable_from_called_objects : (objects : ℕ → Specification) (h : List Numbered) → IsHistory h
    → All (λ e. HasValidOrderOf objects h e.object) (calls_in h) → IsLinearizableFor objects (events h)
linearizable_from_called_objects objects h hist valid =
    linearizable_from_orders objects h hist
    (λ x. order_of objects h x (filter (λ e. e.object == x) (calls_in h)) refl valid)
