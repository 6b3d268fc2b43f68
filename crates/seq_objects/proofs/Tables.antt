-- The entries of an ordered map are a finite map: each operation changes one key and leaves the others (`Changes`),
-- so its step is that of the definition (`next-put` and its siblings). By comparing both at each key.
use Rattle.std.proofs.Common.{◌≡◌, ℤ, Bool, true, false, cond, not, T, List, [], ◌∷◌, ◌&&◌, Option, None, Some}
use Rattle.std.proofs.Common.{is_some, length, refl, ap, sym, subst, ◌∙◌, Less}
use Rattle.std.specs.Bool.{Decides}
use Rattle.std.specs.Ordering.{int_cmp, int_eq, eq_by_cmp, is_lt}
use Rattle.std.specs.Option.{option_eq}
use Rattle.std.specs.Cmp.{int_cmp_total, eq_by_cmp_equiv}
use Rattle.std.specs.List.{AllByRecursion}
use Rattle.std.specs.List.Sorted.{IsStrictlySortedBy}
use Rattle.std.specs.Map.{keys_of, lookup}
use Rattle.std.specs.BTreeMap.{is_at}
use Rattle.std.specs.FinMap.{FinMap, empty, empty_of_len, len-entries, find, is_sorted, from_sorted, get, insert}
use Rattle.std.specs.FinMap.{remove, get-from_sorted, get-insert}
use Rattle.std.specs.FinMap.{get-remove, entries-from_sorted, entries, same_map, int_cmp-IsAntisymmetric}
use Rattle.std.specs.FinMap.Entries.{below_all}
use Rattle.model.specs.declared.AnyOp.TheVariants.{Put, Get, Del, Assoc, Dissoc}
use Rattle.model.specs.declared.AnyReply.{AnyReply}
use Rattle.model.specs.declared.AnyReply.TheVariants.{Value, Flag}
use Rattle.model.specs.Objects.{Content, next, table, contains_value, inserted_if, has_value, is_absent}
use Rattle.seq_objects.specs.declared.map_object.MapOp.TheVariants as of_map

-- ---- the entries of a map

abbrev pub Entries : Type 0
Entries = List (ℤ × ℤ)

abbrev pub Ordered : Entries → Type 0
Ordered es = IsStrictlySortedBy int_cmp (keys_of es)

abbrev pub at_key : ℤ → Entries → Option ℤ
at_key q es = lookup (is_at (int_cmp q)) es

-- fs has w at k, and at each other key what es has
abbrev pub Changes : Entries → Entries → ℤ → Option ℤ → Type 0
Changes es fs k w = (q : ℤ) → at_key q fs ≡ cond (is_at (int_cmp k) q) w (at_key q es)

both : (a b : Bool) → T a → T b → T (a && b)
both true b p q = q
both false b p q = p

below_all-first : {X : Type 0} (k : ℤ) (es : List (ℤ × X))
    → AllByRecursion (λ y. int_cmp k y ≡ Less) (keys_of es) → T (below_all int_cmp k es)
below_all-first k [] h = tt
below_all-first k (e ∷ es) h = both _ _ (subst (λ r. T (is_lt r)) (sym h.0) tt) (below_all-first k es h.1)

pub is_sorted-entries : {X : Type 0} (es : List (ℤ × X)) → IsStrictlySortedBy int_cmp (keys_of es)
    → T (is_sorted int_cmp es)
unfolding IsStrictlySortedBy
is_sorted-entries [] h = tt
is_sorted-entries (e ∷ es) h = both _ _ (below_all-first e.0 es h.0) (is_sorted-entries es h.1)

find-at_key : (q : ℤ) (es : Entries) → find int_cmp q es ≡ at_key q es
find-at_key q [] = refl
find-at_key q (e ∷ es) = ap (cond (eq_by_cmp int_cmp q e.0) (Some e.1)) (find-at_key q es)

-- what the map has at a key is what a look-up in its entries finds
get-at_key : (es : Entries) (q : ℤ) → Ordered es → get (from_sorted {R = int_cmp} es) q ≡ at_key q es
get-at_key es q h = get-from_sorted int_cmp es q (is_sorted-entries es h) ∙ find-at_key q es

-- after a change at k, the map has at q what the map before has, changed at k
get-changed : (before after : Entries) (key : ℤ) (value : Option ℤ) → Ordered before → Ordered after
    → Changes before after key value → (q : ℤ) → get (from_sorted {R = int_cmp} after) q
    ≡ cond (eq_by_cmp int_cmp q key) value (get (from_sorted {R = int_cmp} before) q)
get-changed before after key value ordered ordered' changes q =
    get-at_key after q ordered' ∙ changes q ∙ ap (λ b. cond b value (at_key q before))
    ((eq_by_cmp_equiv int_cmp_total).symm key q)
    ∙ ap (cond (eq_by_cmp int_cmp q key) value) (sym (get-at_key before q ordered))

from_sorted-insert : (before after : Entries) (key value : ℤ) → Ordered before → Ordered after
    → Changes before after key (Some value)
    → from_sorted {R = int_cmp} after ≡ insert (from_sorted {R = int_cmp} before) key value
from_sorted-insert before after key value ordered ordered' changes =
    same_map int_cmp_total int_cmp-IsAntisymmetric _ _
    (λ q. get-changed before after key (Some value) ordered ordered' changes q
    ∙ sym (get-insert int_cmp_total _ key value q))

from_sorted-remove : (before after : Entries) (key : ℤ) → Ordered before → Ordered after → Changes before after key None
    → from_sorted {R = int_cmp} after ≡ remove (from_sorted {R = int_cmp} before) key
from_sorted-remove before after key ordered ordered' changes =
    same_map int_cmp_total int_cmp-IsAntisymmetric _ _
    (λ q. get-changed before after key None ordered ordered' changes q ∙ sym (get-remove int_cmp_total _ key q))

-- maps of ordered entries are equal only where the entries are
from_sorted-injective : (es fs : Entries) → Ordered es → Ordered fs
    → from_sorted {R = int_cmp} es ≡ from_sorted {R = int_cmp} fs → es ≡ fs
from_sorted-injective es fs he hf e =
    sym (entries-from_sorted int_cmp es (is_sorted-entries es he)) ∙ ap entries e
    ∙ entries-from_sorted int_cmp fs (is_sorted-entries fs hf)

pub from_sorted-empty : (es : Entries) → es ≡ [] → Ordered es → from_sorted {R = int_cmp} es ≡ empty
from_sorted-empty es e h =
    empty_of_len _ (len-entries _ ∙ ap length (entries-from_sorted int_cmp es (is_sorted-entries es h) ∙ e))

-- ---- the steps

-- The step of each operation. The table has some entries before it, and others after it.
pub next-put : (map : FinMap int_cmp ℤ) (before after : Entries) (key value : ℤ) (reply : Option ℤ)
    → from_sorted before ≡ map → Ordered before
    → Ordered after → Changes before after key (Some value) → reply ≡ at_key key before
    → next (table map) (Put key value) ≡ Some (table (from_sorted after), Value reply)
next-put map before after key value reply is ordered ordered' changes old =
    ap (λ n. Some (table n, Value (get map key)))
    (ap (λ n. insert n key value) (sym is) ∙ sym (from_sorted-insert before after key value ordered ordered' changes))
    ∙ ap (λ o. Some (table (from_sorted after), Value o)) (ap (λ n. get n key) (sym is) ∙ get-at_key before key ordered
    ∙ sym old)

pub next-get : (map : FinMap int_cmp ℤ) (pairs : Entries) (key : ℤ) (reply : Option ℤ) → from_sorted pairs ≡ map
    → Ordered pairs → reply ≡ at_key key pairs → next (table map) (Get key) ≡ Some (table map, Value reply)
next-get map pairs key reply is ordered found =
    ap (λ o. Some (table map, Value o)) (ap (λ n. get n key) (sym is) ∙ get-at_key pairs key ordered ∙ sym found)

pub next-del : (map : FinMap int_cmp ℤ) (before after : Entries) (key : ℤ) (reply : Option ℤ) → from_sorted before ≡ map
    → Ordered before → Ordered after → Changes before after key None → reply ≡ at_key key before
    → next (table map) (Del key) ≡ Some (table (from_sorted after), Value reply)
next-del map before after key reply is ordered ordered' changes old =
    ap (λ n. Some (table n, Value (get map key)))
    (ap (λ n. remove n key) (sym is) ∙ sym (from_sorted-remove before after key ordered ordered' changes))
    ∙ ap (λ o. Some (table (from_sorted after), Value o)) (ap (λ n. get n key) (sym is) ∙ get-at_key before key ordered
    ∙ sym old)

table_inserted : (map : FinMap int_cmp ℤ) (before after : Entries) (key value : ℤ) → from_sorted before ≡ map
    → Ordered before → Ordered after → Changes before after key (Some value)
    → insert map key value ≡ from_sorted after
table_inserted map before after key value is ordered ordered' changes = ap (λ n. insert n key value) (sym is)
    ∙ sym (from_sorted-insert before after key value ordered ordered' changes)

table_at_key : (map : FinMap int_cmp ℤ) (pairs : Entries) (key : ℤ) → from_sorted pairs ≡ map → Ordered pairs
    → get map key ≡ at_key key pairs
table_at_key map pairs key is ordered = ap (λ n. get n key) (sym is) ∙ get-at_key pairs key ordered

-- an operation that changes the table where it is so, and replies whether it is so
pub next_if_so : (map : FinMap int_cmp ℤ) (before after : Entries) (key value : ℤ) (so flag : Bool)
    → from_sorted before ≡ map → Ordered before → Ordered after → Changes before after key (Some value)
    → so ≡ flag → flag ≡ true
    → ◌≡◌ {A = Option (Content × AnyReply)} (Some (table (inserted_if so map key value), Flag so)) (Some (
      table
          (from_sorted after),
      Flag flag,
    ))
next_if_so map before after key value so flag is ordered ordered' changes told holds =
    ap (λ c. Some (table (inserted_if c map key value), Flag c)) told
    ∙ ap (λ c. Some (table (inserted_if c map key value), Flag flag)) holds
    ∙ ap (λ n. Some (table n, Flag flag)) (table_inserted map before after key value is ordered ordered' changes)

-- and replies that it is not so where it does not change
pub next_if_not : (map : FinMap int_cmp ℤ) (key value : ℤ) (so flag : Bool) → so ≡ flag → flag ≡ false
    → ◌≡◌ {A = Option (Content × AnyReply)} (Some (table (inserted_if so map key value), Flag so))
    (Some (table map, Flag flag))
next_if_not map key value so flag told fails =
    ap (λ c. Some (table (inserted_if c map key value), Flag c)) told
    ∙ ap (λ c. Some (table (inserted_if c map key value), Flag flag)) fails

pub absent-at_key : (map : FinMap int_cmp ℤ) (pairs : Entries) (key : ℤ) → from_sorted pairs ≡ map → Ordered pairs
    → is_absent map key ≡ not (is_some (at_key key pairs))
absent-at_key map pairs key is ordered = ap (λ o. not (is_some o)) (table_at_key map pairs key is ordered)

pub has-at_key : (map : FinMap int_cmp ℤ) (pairs : Entries) (key value : ℤ) → from_sorted pairs ≡ map
    → Ordered pairs → has_value map key value ≡ contains_value (at_key key pairs) value
has-at_key map pairs key value is ordered = ap (λ o. contains_value o value) (table_at_key map pairs key is ordered)

pub contains-eq : (o : Option ℤ) (a : ℤ) → contains_value o a ≡ option_eq int_eq o (Some a)
contains-eq None a = refl
contains-eq (Some v) a = refl

pub next-assoc : (map : FinMap int_cmp ℤ) (before after : Entries) (key value : ℤ) → from_sorted before ≡ map
    → Ordered before → Ordered after → Changes before after key (Some value)
    → next (table map) (Assoc key value) ≡ Some (table (from_sorted after), Value None)
next-assoc map before after key value is ordered ordered' changes = ap (λ n. Some (table n, Value None))
    (table_inserted map before after key value is ordered ordered' changes)

pub next-dissoc : (map : FinMap int_cmp ℤ) (before after : Entries) (key : ℤ) → from_sorted before ≡ map
    → Ordered before → Ordered after → Changes before after key None
    → next (table map) (Dissoc key) ≡ Some (table (from_sorted after), Value None)
next-dissoc map before after key is ordered ordered' changes =
    ap (λ n. Some (table n, Value None)) (ap (λ n. remove n key) (sym is)
    ∙ sym (from_sorted-remove before after key ordered ordered' changes))

in_table : Content → FinMap int_cmp ℤ
in_table (table m) = m
in_table other = empty

table-injective : (m n : FinMap int_cmp ℤ) → table m ≡ table n → m ≡ n
unfolding in_table
table-injective m n e = ap in_table e

-- two tables are compared by their entries
pub same_tables : (map map' : FinMap int_cmp ℤ) (pairs pairs' : Entries) (answer : Bool) → from_sorted pairs ≡ map
    → from_sorted pairs' ≡ map'
    → Ordered pairs → Ordered pairs' → Decides answer (pairs ≡ pairs') → Decides answer (table map ≡ table map')
same_tables map map' pairs pairs' answer is is' ordered ordered' decides = (
  λ t. ap table (sym is ∙ ap from_sorted (decides.0 t) ∙ is'),
  λ same. decides.1
      (from_sorted-injective pairs pairs' ordered ordered' (is ∙ table-injective map map' same ∙ sym is')),
)

-- two puts of one key and one value are one
pub same_put : (key key' value value' : ℤ) → key ≡ key' → value ≡ value' → of_map.Put key value ≡ of_map.Put key' value'
same_put key key' value value' e f = λ i. of_map.Put (e i) (f i)

-- so are two assocs
pub same_assoc : (key key' value value' : ℤ) → key ≡ key' → value ≡ value'
    → of_map.Assoc key value ≡ of_map.Assoc key' value'
same_assoc key key' value value' e f = λ i. of_map.Assoc (e i) (f i)

-- and two puts where the key is absent
pub same_put_if_absent : (key key' value value' : ℤ) → key ≡ key' → value ≡ value'
    → of_map.PutIfAbsent key value ≡ of_map.PutIfAbsent key' value'
same_put_if_absent key key' value value' e f = λ i. of_map.PutIfAbsent (e i) (f i)

-- and two replacements
pub same_replace : (key key' old old' new new' : ℤ) → key ≡ key' → old ≡ old' → new ≡ new'
    → of_map.Replace key old new ≡ of_map.Replace key' old' new'
same_replace key key' old old' new new' e f g = λ i. of_map.Replace (e i) (f i) (g i)
