-- A counter contains a number of 64 bits, at first 0. An addition past them is not possible.
use Rattle.std.specs.Prelude.{ℤ, pos, negsuc, ◌+ℤ◌, nat_lt, Bool, Option, Some, None, if◌then◌else◌}
use Rattle.model.specs.declared.AnyOp.{AnyOp}
use Rattle.model.specs.declared.AnyOp.TheVariants.{FetchAdd, GetCount}
use Rattle.model.specs.declared.AnyReply.{AnyReply}
use Rattle.model.specs.declared.AnyReply.TheVariants.{Value}

-- whether a number has at most 64 bits, with its sign
abbrev pub is_i64 : ℤ → Bool
is_i64 (pos n) = nat_lt n 9223372036854775808
is_i64 (negsuc n) = nat_lt n 9223372036854775808

-- what an operation leaves in a counter, and what it replies, if it is possible
abbrev pub next_counter : ℤ → AnyOp → Option (ℤ × AnyReply)
next_counter c (FetchAdd n) = if is_i64 (c +ℤ n) then Some (c +ℤ n, Value (Some c)) else None
next_counter c GetCount = Some (c, Value (Some c))
next_counter c op = None
