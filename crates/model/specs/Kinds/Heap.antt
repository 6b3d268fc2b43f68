-- A heap contains a bag, as the rising list of its values.
use Rattle.std.specs.Prelude.{ℤ, int_lt, List, [], ◌∷◌, Option, Some, None, if◌then◌else◌}
use Rattle.model.specs.declared.AnyOp.{AnyOp}
use Rattle.model.specs.declared.AnyOp.TheVariants.{Insert, ExtractMin}
use Rattle.model.specs.declared.AnyReply.{AnyReply}
use Rattle.model.specs.declared.AnyReply.TheVariants.{Value}

-- one more value in a bag
abbrev pub with_value : ℤ → List ℤ → List ℤ
with_value v [] = v ∷ []
with_value v (w ∷ ws) = if int_lt w v then w ∷ with_value v ws else v ∷ w ∷ ws

-- what an operation leaves in a heap, and what it replies, if it is possible
abbrev pub next_heap : List ℤ → AnyOp → Option (List ℤ × AnyReply)
next_heap vs (Insert v) = Some (with_value v vs, Value (Some v))
next_heap [] ExtractMin = Some ([], Value None)
next_heap (v ∷ vs) ExtractMin = Some (vs, Value (Some v))
next_heap vs op = None
