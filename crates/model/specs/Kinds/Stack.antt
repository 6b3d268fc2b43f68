-- A stack contains its values, from the top on.
use Rattle.std.specs.Prelude.{ℤ, List, [], ◌∷◌, Option, Some, None}
use Rattle.model.specs.declared.AnyOp.{AnyOp}
use Rattle.model.specs.declared.AnyOp.TheVariants.{Push, Pop}
use Rattle.model.specs.declared.AnyReply.{AnyReply}
use Rattle.model.specs.declared.AnyReply.TheVariants.{Value}

-- what an operation leaves in a stack, and what it replies, if it is possible
abbrev pub next_stack : List ℤ → AnyOp → Option (List ℤ × AnyReply)
next_stack vs (Push v) = Some (v ∷ vs, Value (Some v))
next_stack [] Pop = Some ([], Value None)
next_stack (v ∷ vs) Pop = Some (vs, Value (Some v))
next_stack vs op = None
