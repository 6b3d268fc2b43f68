-- A map contains values by key.
use Rattle.std.specs.Prelude.{ℤ, Bool, not, Option, Some, None, if◌then◌else◌}
use Rattle.std.specs.Ordering.{int_cmp}
use Rattle.std.specs.FinMap as map
use Rattle.model.specs.Kinds.Register.{contains_value}
use Rattle.model.specs.declared.AnyOp.{AnyOp}
use Rattle.model.specs.declared.AnyOp.TheVariants.{Put, Get, Del, PutIfAbsent, Replace, Assoc}
use Rattle.model.specs.declared.AnyOp.TheVariants.{Dissoc}
use Rattle.model.specs.declared.AnyReply.{AnyReply}
use Rattle.model.specs.declared.AnyReply.TheVariants.{Value, Flag}

-- what a map contains: a value for each of some keys
abbrev pub Table : Type 0
Table = map.FinMap int_cmp ℤ

-- the table, with this value of this key if it is so
abbrev pub inserted_if : Bool → Table → ℤ → ℤ → Table
inserted_if so m k v = if so then map.insert m k v else m

-- whether this key has this value
abbrev pub has_value : Table → ℤ → ℤ → Bool
has_value m k a = contains_value (map.get m k) a

-- whether this key has no value
abbrev pub is_absent : Table → ℤ → Bool
is_absent m k = not (map.contains_key m k)

-- What an operation leaves in a map, and what it replies, if it is possible. `Assoc` and `Dissoc`
-- tell nothing of the value that the key had.
abbrev pub next_map : Table → AnyOp → Option (Table × AnyReply)
next_map m (Put k v) = Some (map.insert m k v, Value (map.get m k))
next_map m (Get k) = Some (m, Value (map.get m k))
next_map m (Del k) = Some (map.remove m k, Value (map.get m k))
next_map m (PutIfAbsent k v) = Some (inserted_if (is_absent m k) m k v, Flag (is_absent m k))
next_map m (Replace k a b) = Some (inserted_if (has_value m k a) m k b, Flag (has_value m k a))
next_map m (Assoc k v) = Some (map.insert m k v, Value None)
next_map m (Dissoc k) = Some (map.remove m k, Value None)
next_map m op = None
