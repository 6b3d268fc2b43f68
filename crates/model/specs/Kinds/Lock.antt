-- A lock contains its owner while it has one. It is locked only while it has none, and unlocked
-- only by its owner.
use Rattle.std.specs.Prelude.{ℤ, Option, Some, None, if◌then◌else◌}
use Rattle.std.specs.Ordering.{int_eq}
use Rattle.model.specs.declared.AnyOp.{AnyOp}
use Rattle.model.specs.declared.AnyOp.TheVariants.{LockBy, UnlockBy}
use Rattle.model.specs.declared.AnyReply.{AnyReply}
use Rattle.model.specs.declared.AnyReply.TheVariants.{Value}

-- what an operation leaves in a lock, and what it replies, if it is possible
abbrev pub next_lock : Option ℤ → AnyOp → Option (Option ℤ × AnyReply)
next_lock None (LockBy o) = Some (Some o, Value None)
next_lock (Some p) (UnlockBy o) = if int_eq p o then Some (None, Value None) else None
next_lock owner op = None
