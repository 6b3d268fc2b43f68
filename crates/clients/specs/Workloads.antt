-- What the clients of a desk are to call.
use Rattle.std.specs.Prelude.{◌≡◌, ℕ, ◌<◌, List, [], length, All, slice_index_or, ◌+◌}
use Rattle.model.specs.declared.Kind.{Kind}
use Rattle.model.specs.declared.AnyOp.{AnyOp}
use Rattle.model.specs.Objects.{kind_of}
use Rattle.desk_model.specs.World.{kind_at}
use Rattle.desk_model.specs.Limits.{max_objects, max_clients, max_calls}

-- a call: the number of its object, and the operation
abbrev pub WorkCall : Type 0
WorkCall = ℕ × AnyOp

-- the kind of each object, and the calls of each client in order
pub record Work : Type 0 where
  pub kinds : List Kind
  pub calls : List (List WorkCall)

-- the calls of client c, in order
abbrev pub calls_at : Work → ℕ → List WorkCall
calls_at w c = slice_index_or w.calls c []

-- the object of the call is there, and the operation is of its kind
abbrev pub IsCall : List Kind → WorkCall → Type 0
IsCall kinds c = (c.0 < length kinds) × (kind_of c.1 ≡ kind_at kinds c.0)

-- a desk can be made for these objects and these calls of clients
pub record IsWorkload (w : Work) : Type 0 where
  pub objects : 0 < length w.kinds
  pub few_objects : length w.kinds < 1 + max_objects
  pub clients : 0 < length w.calls
  pub few_clients : length w.calls < 1 + max_clients
  pub few_calls : All (λ cs. length cs < 1 + max_calls) w.calls
  pub fits : All (λ cs. All (IsCall w.kinds) cs) w.calls
