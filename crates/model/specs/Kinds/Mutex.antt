-- A mutex contains whether it is held. It is acquired only while it is free, and released only
-- while it is held.
use Rattle.std.specs.Prelude.{Bool, true, false, Option, Some, None}
use Rattle.model.specs.declared.AnyOp.{AnyOp}
use Rattle.model.specs.declared.AnyOp.TheVariants.{Acquire, Release}
use Rattle.model.specs.declared.AnyReply.{AnyReply}
use Rattle.model.specs.declared.AnyReply.TheVariants.{Value}

-- what an operation leaves in a mutex, and what it replies, if it is possible
abbrev pub next_mutex : Bool → AnyOp → Option (Bool × AnyReply)
next_mutex false Acquire = Some (true, Value None)
next_mutex true Release = Some (false, Value None)
next_mutex held op = None
