-- Sequential specifications, after Herlihy and Wing, TOPLAS 1990, section 2.
use Rattle.std.specs.Prelude.{Option}
use Rattle.model.specs.declared.AnyOp.{AnyOp}
use Rattle.model.specs.declared.AnyReply.{AnyReply}

-- the sequential specification of an object
pub record Specification : Type 1 where
  -- what the object can contain
  pub Content : Type 0
  -- what it contains at first
  pub empty : Content
  -- what an operation leaves, and its reply, if it is possible
  pub next : Content → AnyOp → Option (Content × AnyReply)
  -- which operations the object has
  pub has : AnyOp → Type 0
