-- A set contains its elements. It replies whether an element was added, whether one was removed,
-- and whether it has one.
use Rattle.std.specs.Prelude.{not, Option, Some, None}
use Rattle.std.specs.Ordering.{int_cmp}
use Rattle.std.specs.FinSet as set
use Rattle.model.specs.declared.AnyOp.{AnyOp}
use Rattle.model.specs.declared.AnyOp.TheVariants.{Add, Remove, Has}
use Rattle.model.specs.declared.AnyReply.{AnyReply}
use Rattle.model.specs.declared.AnyReply.TheVariants.{Flag}

-- what a set contains: integers
abbrev pub Elements : Type 0
Elements = set.FinSet int_cmp

-- what an operation leaves in a set, and what it replies, if it is possible
abbrev pub next_set : Elements → AnyOp → Option (Elements × AnyReply)
next_set s (Add v) = Some (set.insert s v, Flag (not (set.contains s v)))
next_set s (Remove v) = Some (set.remove s v, Flag (set.contains s v))
next_set s (Has v) = Some (s, Flag (set.contains s v))
next_set s op = None
