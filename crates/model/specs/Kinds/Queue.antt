-- A queue contains its values, from the first to go out on.
use Rattle.std.specs.Prelude.{ℤ, List, [], ◌∷◌, ◌++◌, Option, Some, None}
use Rattle.model.specs.declared.AnyOp.{AnyOp}
use Rattle.model.specs.declared.AnyOp.TheVariants.{Enqueue, Dequeue}
use Rattle.model.specs.declared.AnyReply.{AnyReply}
use Rattle.model.specs.declared.AnyReply.TheVariants.{Value}

-- what an operation leaves in a queue, and what it replies, if it is possible
abbrev pub next_queue : List ℤ → AnyOp → Option (List ℤ × AnyReply)
next_queue vs (Enqueue v) = Some (vs ++ v ∷ [], Value (Some v))
next_queue [] Dequeue = Some ([], Value None)
next_queue (v ∷ vs) Dequeue = Some (vs, Value (Some v))
next_queue vs op = None
