-- A table's value at a key, and whether a set contains an element, after an insertion and after a removal, by a test of
-- two integers. The library compares them by their order.
use Rattle.std.proofs.Common.{◌≡◌, ℤ, not, ◌&&◌, ◌||◌, cond, Some, None, ap, ◌∙◌, arith}
use Rattle.std.proofs.lemmas.Int.{ints}
use Rattle.std.specs.Ordering.{int_cmp, int_eq, eq_by_cmp}
use Rattle.std.specs.Cmp.{int_cmp_total}
use Rattle.std.specs.FinMap as map
use Rattle.std.specs.FinSet as set

same_key : (key other : ℤ) → eq_by_cmp int_cmp key other ≡ int_eq other key
same_key key other = grind (arith, ints)

-- what a table has for a key after an insert
pub get-insert : (table : map.FinMap int_cmp ℤ) (put value key : ℤ)
    → map.get (map.insert table put value) key ≡ cond (int_eq put key) (Some value) (map.get table key)
get-insert table put value key =
    map.get-insert int_cmp_total table put value key
    ∙ ap (λ b. cond b (Some value) (map.get table key)) (same_key key put)

-- what a table has for a key after a removal
pub get-remove : (table : map.FinMap int_cmp ℤ) (removed key : ℤ)
    → map.get (map.remove table removed) key ≡ cond (int_eq removed key) None (map.get table key)
get-remove table removed key =
    map.get-remove int_cmp_total table removed key
    ∙ ap (λ b. cond b None (map.get table key)) (same_key key removed)

-- which elements a set has after an insert
pub contains-insert : (elements : set.FinSet int_cmp) (added value : ℤ) → set.contains (set.insert elements added) value
    ≡ (int_eq added value || set.contains elements value)
contains-insert elements added value =
    set.contains-insert int_cmp_total elements added value
    ∙ ap (λ b. b || set.contains elements value) (same_key value added)

-- which elements a set has after a removal
pub contains-remove : (elements : set.FinSet int_cmp) (removed value : ℤ)
    → set.contains (set.remove elements removed) value ≡ (not (int_eq removed value) && set.contains elements value)
contains-remove elements removed value =
    set.contains-remove int_cmp_total elements removed value
    ∙ ap (λ b. not b && set.contains elements value) (same_key value removed)
