-- What the calls of a register do to its cell, and the calls of a register in a part.
use Rattle.std.specs.Prelude.{ℤ, true, false, Option, Some, None}
use Rattle.model.specs.declared.AnyOp.{AnyOp}
use Rattle.model.specs.declared.AnyOp.TheVariants.{Write, Read, Cas, Clear, Create}
use Rattle.model.specs.declared.AnyReply.{AnyReply}
use Rattle.model.specs.declared.AnyReply.TheVariants.{Value, Swapped, NotSwapped, Flag}
use Rattle.cuts.specs.declared.touches.Need.TheVariants.{Any, Is, IsNot}
use Rattle.cuts.specs.declared.touches.Leave.TheVariants.{AsItWas, Content}
use Rattle.cuts.specs.declared.touches.Touch.{Touch}
use Rattle.cuts.specs.Touches.{touch}

-- What an operation with this reply did to the cell. With no reply: what it does if it takes
-- effect. A swap or a creation whose condition does not hold leaves the cell as it was.
abbrev pub register_touch : AnyOp → Option AnyReply → Option Touch
register_touch (Write v) reply = Some (touch Any (Content (Some v)))
register_touch Read (Some (Value c)) = Some (touch (Is c) AsItWas)
register_touch (Cas a b) None = Some (touch (Is (Some a)) (Content (Some b)))
register_touch (Cas a b) (Some (Swapped c d)) = Some (touch (Is (Some a)) (Content (Some b)))
register_touch (Cas a b) (Some NotSwapped) = Some (touch (IsNot (Some a)) AsItWas)
register_touch Clear reply = Some (touch Any (Content None))
register_touch (Create v) None = Some (touch (Is None) (Content (Some v)))
register_touch (Create v) (Some (Flag true)) = Some (touch (Is None) (Content (Some v)))
register_touch (Create v) (Some (Flag false)) = Some (touch (IsNot None) AsItWas)
register_touch op reply = None

-- the call that leaves this content, whatever the register contains
abbrev pub setting : Option ℤ → AnyOp × AnyReply
setting None = (Clear, Value None)
setting (Some v) = (Write v, Value (Some v))

-- The call that finds the first content and leaves the second one. No call that leaves no value
-- tells what it found.
abbrev pub replacing : Option ℤ → Option ℤ → AnyOp × AnyReply
replacing None (Some b) = (Create b, Flag true)
replacing (Some a) (Some b) = (Cas a b, Swapped a b)
replacing found None = setting None

-- the call that finds this content and leaves it
abbrev pub finding : Option ℤ → AnyOp × AnyReply
finding c = (Read, Value c)
