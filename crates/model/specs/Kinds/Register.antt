-- A register contains a value or none.
use Rattle.std.specs.Prelude.{ℤ, Bool, true, false, Option, Some, None, if◌then◌else◌}
use Rattle.std.specs.Ordering.{int_eq}
use Rattle.model.specs.declared.AnyOp.{AnyOp}
use Rattle.model.specs.declared.AnyOp.TheVariants.{Write, Read, Cas, Clear, Create}
use Rattle.model.specs.declared.AnyReply.{AnyReply}
use Rattle.model.specs.declared.AnyReply.TheVariants.{Value, Swapped, NotSwapped, Flag}

-- whether a register contains this value
abbrev pub contains_value : Option ℤ → ℤ → Bool
contains_value None a = false
contains_value (Some v) a = int_eq v a

-- What an operation leaves in a register, and what it replies. `Create` leaves its value only if
-- there is none.
abbrev pub next_register : Option ℤ → AnyOp → Option (Option ℤ × AnyReply)
next_register c (Write v) = Some (Some v, Value (Some v))
next_register c Read = Some (c, Value c)
next_register c (Cas a b) =
    if contains_value c a then Some (Some b, Swapped a b) else Some (c, NotSwapped)
next_register c Clear = Some (None, Value None)
next_register None (Create v) = Some (Some v, Flag true)
next_register (Some w) (Create v) = Some (Some w, Flag false)
next_register c op = None
