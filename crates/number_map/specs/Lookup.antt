-- What a map from numbers has for each number.
use Rattle.std.specs.Prelude.{ℕ, nat_lt, Option, None, slice_index_or, if◌then◌else◌}
use Rattle.std.specs.Ordering.{nat_cmp}
use Rattle.std.specs.BTreeMap.{get}
use Rattle.number_map.specs.declared.NumberMap.{NumberMap}

-- the keys below this one have their values in the table
abbrev pub table_keys : ℕ
table_keys = 65536

-- the value of a key
abbrev pub value_of : {V : Type 0} → NumberMap V → ℕ → Option V
value_of m k =
    if nat_lt k table_keys then slice_index_or m.table.items k None else get nat_cmp m.others k
