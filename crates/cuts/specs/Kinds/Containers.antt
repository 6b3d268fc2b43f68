-- What the operations of queues, stacks and heaps put in and take out.
use Rattle.std.specs.Prelude.{ℤ, int_lt, Bool, true, false, Option, Some, None}
use Rattle.std.specs.Option.{option_map_or}
use Rattle.model.specs.declared.AnyOp.{AnyOp}
use Rattle.model.specs.declared.AnyOp.TheVariants.{Enqueue, Dequeue, Push, Pop, Insert, ExtractMin}

-- the value that an operation puts in
abbrev pub put_value : AnyOp → Option ℤ
put_value (Enqueue v) = Some v
put_value (Push v) = Some v
put_value (Insert v) = Some v
put_value op = None

-- whether an operation puts in a kept value
abbrev pub puts_in : (ℤ → Bool) → AnyOp → Bool
puts_in keeps op = option_map_or keeps (put_value op) false

-- whether an operation takes a value out of a queue, a stack or a heap
abbrev pub is_removal : AnyOp → Bool
is_removal Dequeue = true
is_removal Pop = true
is_removal ExtractMin = true
is_removal op = false

-- whether a removal takes out what was put in first
abbrev pub takes_first : AnyOp → Bool
takes_first Dequeue = true
takes_first op = false

-- whether a removal takes out what was put in last
abbrev pub takes_last : AnyOp → Bool
takes_last Pop = true
takes_last op = false

-- Which values can be ahead of what a removal found. Of nothing: each value. Of a value in a heap:
-- each lesser one. In a queue or a stack: each value, but only by certain puts (`ahead_before`,
-- `are_settled`).
abbrev pub is_value_ahead : Option ℤ → AnyOp → ℤ → Bool
is_value_ahead None op v = true
is_value_ahead (Some b) Dequeue v = true
is_value_ahead (Some b) Pop v = true
is_value_ahead (Some b) ExtractMin v = int_lt v b
is_value_ahead (Some b) op v = false
