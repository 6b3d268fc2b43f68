-- The keys of an ordered set are the elements of a finite set: each operation changes one key and leaves the others
-- (`Updates`), so its step is that of the definition (`next-add` and its siblings). By comparing both at each key.
use Rattle.std.proofs.Common.{◌≡◌, ℤ, Bool, true, false, cond, not, ◌||◌, ◌&&◌, T, List, [], ◌∷◌, map, Option, None}
use Rattle.std.proofs.Common.{Some, refl, ap, sym, subst, ◌∙◌}
use Rattle.std.specs.Bool.{Decides}
use Rattle.std.specs.Ordering.{int_cmp, eq_by_cmp}
use Rattle.std.specs.Cmp.{int_cmp_total, eq_by_cmp_equiv}
use Rattle.std.specs.List.{list_any}
use Rattle.std.specs.List.Sorted.{IsStrictlySortedBy}
use Rattle.std.specs.Map.{keys_of}
use Rattle.std.specs.BTreeMap.{is_at}
use Rattle.std.specs.FinMap.{find, is_sorted, from_sorted, get, same_map, get-from_sorted, entries}
use Rattle.std.specs.FinMap.{entries-from_sorted, int_cmp-IsAntisymmetric}
use Rattle.std.specs.FinSet.{FinSet, empty, contains, insert, remove, from_list, contains-from_list, contains-insert}
use Rattle.std.specs.FinSet.{contains-remove, same_set}
use Rattle.model.specs.declared.AnyOp.TheVariants.{Add, Remove, Has}
use Rattle.model.specs.declared.AnyReply.TheVariants.{Flag}
use Rattle.model.specs.Objects.{Content, next, elements}
use Rattle.seq_objects.proofs.Tables.{is_sorted-entries}

abbrev pub Keys : Type 0
Keys = List ℤ

-- whether the key q is among the keys
abbrev pub has_key : ℤ → Keys → Bool
has_key q ks = list_any (is_at (int_cmp q)) ks

-- ls has k where b says so, and each other key where ks has it
abbrev pub Updates : Keys → Keys → ℤ → Bool → Type 0
Updates ks ls k b = (q : ℤ) → has_key q ls ≡ cond (is_at (int_cmp k) q) b (has_key q ks)

contains-has_key : (ks : Keys) (q : ℤ) → contains (from_list {R = int_cmp} ks) q ≡ has_key q ks
contains-has_key ks q = contains-from_list int_cmp_total ks q

-- after an update at k, the set has at q what the set before has, updated at k
contains-updated : (ks ls : Keys) (k : ℤ) (b : Bool) → Updates ks ls k b → (q : ℤ)
    → contains (from_list {R = int_cmp} ls) q ≡ cond (eq_by_cmp int_cmp q k) b (contains (from_list {R = int_cmp} ks) q)
contains-updated ks ls k b updates q =
    contains-has_key ls q ∙ updates q ∙ ap (λ c. cond c b (has_key q ks)) ((eq_by_cmp_equiv int_cmp_total).symm k q)
    ∙ ap (cond (eq_by_cmp int_cmp q k) b) (sym (contains-has_key ks q))

cond-true : (b x : Bool) → cond b true x ≡ (b || x)
cond-true true x = refl
cond-true false x = refl

cond-false : (b x : Bool) → cond b false x ≡ (not b && x)
cond-false true x = refl
cond-false false x = refl

from_list-insert : (ks ls : Keys) (k : ℤ) → Updates ks ls k true
    → from_list {R = int_cmp} ls ≡ insert (from_list {R = int_cmp} ks) k
from_list-insert ks ls k updates = same_set int_cmp_total int_cmp-IsAntisymmetric _ _
    (λ q. contains-updated ks ls k true updates q
    ∙ cond-true (eq_by_cmp int_cmp q k) (contains (from_list ks) q) ∙ sym (contains-insert int_cmp_total _ k q))

from_list-remove : (ks ls : Keys) (k : ℤ) → Updates ks ls k false
    → from_list {R = int_cmp} ls ≡ remove (from_list {R = int_cmp} ks) k
from_list-remove ks ls k updates = same_set int_cmp_total int_cmp-IsAntisymmetric _ _
    (λ q. contains-updated ks ls k false updates q
    ∙ cond-false (eq_by_cmp int_cmp q k) (contains (from_list ks) q) ∙ sym (contains-remove int_cmp_total _ k q))

set_has_key : (set : FinSet int_cmp) (keys : Keys) (key : ℤ) → from_list keys ≡ set
    → contains set key ≡ has_key key keys
set_has_key set keys key is = ap (λ n. contains n key) (sym is) ∙ contains-has_key keys key

-- The step of each operation. The set has some keys before it, and others after it.
pub next-add : (set : FinSet int_cmp) (before after : Keys) (value : ℤ) (flag : Bool) → from_list before ≡ set
    → Updates before after value true → flag ≡ not (has_key value before)
    → next (elements set) (Add value) ≡ Some (elements (from_list after), Flag flag)
next-add set before after value flag is updates told =
    ap (λ n. Some (elements n, Flag (not (contains set value)))) (ap (λ n. insert n value) (sym is)
    ∙ sym (from_list-insert before after value updates))
    ∙ ap (λ b. Some (elements (from_list after), Flag b)) (ap not (set_has_key set before value is) ∙ sym told)

pub next-remove : (set : FinSet int_cmp) (before after : Keys) (value : ℤ) (flag : Bool) → from_list before ≡ set
    → Updates before after value false → flag ≡ has_key value before
    → next (elements set) (Remove value) ≡ Some (elements (from_list after), Flag flag)
next-remove set before after value flag is updates told =
    ap (λ n. Some (elements n, Flag (contains set value))) (ap (λ n. remove n value) (sym is)
    ∙ sym (from_list-remove before after value updates))
    ∙ ap (λ b. Some (elements (from_list after), Flag b)) (set_has_key set before value is ∙ sym told)

pub next-has : (set : FinSet int_cmp) (keys : Keys) (value : ℤ) (flag : Bool) → from_list keys ≡ set
    → flag ≡ has_key value keys → next (elements set) (Has value) ≡ Some (elements set, Flag flag)
next-has set keys value flag is told = ap (λ b. Some (elements set, Flag b)) (set_has_key set keys value is ∙ sym told)

-- ---- sets of rising keys are equal only where the keys are

abbrev mark : ℤ → ℤ × Unit {0}
mark k = (k, tt)

keys-marks : (ks : Keys) → keys_of (map mark ks) ≡ ks
keys-marks [] = refl
keys-marks (k ∷ ks) = ap (λ ls. k ∷ ls) (keys-marks ks)

sorted-marks : (ks : Keys) → IsStrictlySortedBy int_cmp ks → T (is_sorted int_cmp (map mark ks))
sorted-marks ks h = is_sorted-entries (map mark ks) (subst (IsStrictlySortedBy int_cmp) (sym (keys-marks ks)) h)

marked : Bool → Option (Unit {0})
marked b = cond b (Some tt) None

marked-or : (a b : Bool) → cond a (Some tt) (marked b) ≡ marked (a || b)
unfolding marked
marked-or true b = refl
marked-or false b = refl

find-marks : (q : ℤ) (ks : Keys) → find int_cmp q (map mark ks) ≡ marked (has_key q ks)
unfolding marked
find-marks q [] = refl
find-marks q (k ∷ ks) =
    ap (cond (eq_by_cmp int_cmp q k) (Some tt)) (find-marks q ks) ∙ marked-or (eq_by_cmp int_cmp q k) (has_key q ks)

get-marks : (ks : Keys) (q : ℤ) → IsStrictlySortedBy int_cmp ks
    → get (from_sorted {R = int_cmp} (map mark ks)) q ≡ marked (has_key q ks)
get-marks ks q h = get-from_sorted int_cmp (map mark ks) q (sorted-marks ks h) ∙ find-marks q ks

same_has_key : (ks ls : Keys) → from_list {R = int_cmp} ks ≡ from_list {R = int_cmp} ls → (q : ℤ)
    → has_key q ks ≡ has_key q ls
same_has_key ks ls e q = sym (contains-has_key ks q) ∙ ap (λ s. contains s q) e ∙ contains-has_key ls q

same_marks : (ks ls : Keys) → IsStrictlySortedBy int_cmp ks → IsStrictlySortedBy int_cmp ls
    → from_list {R = int_cmp} ks ≡ from_list {R = int_cmp} ls
    → from_sorted {R = int_cmp} (map mark ks) ≡ from_sorted {R = int_cmp} (map mark ls)
same_marks ks ls hk hl e = same_map int_cmp_total int_cmp-IsAntisymmetric _ _
    (λ q. get-marks ks q hk ∙ ap marked (same_has_key ks ls e q) ∙ sym (get-marks ls q hl))

keys-from_sorted : (ks : Keys) → IsStrictlySortedBy int_cmp ks
    → keys_of (entries (from_sorted {R = int_cmp} (map mark ks))) ≡ ks
keys-from_sorted ks h = ap keys_of (entries-from_sorted int_cmp (map mark ks) (sorted-marks ks h)) ∙ keys-marks ks

from_list-injective : (ks ls : Keys) → IsStrictlySortedBy int_cmp ks → IsStrictlySortedBy int_cmp ls
    → from_list {R = int_cmp} ks ≡ from_list {R = int_cmp} ls → ks ≡ ls
from_list-injective ks ls hk hl e =
    sym (keys-from_sorted ks hk) ∙ ap (λ m. keys_of (entries m)) (same_marks ks ls hk hl e) ∙ keys-from_sorted ls hl

in_elements : Content → FinSet int_cmp
in_elements (elements s) = s
in_elements other = empty

elements-injective : (s t : FinSet int_cmp) → elements s ≡ elements t → s ≡ t
unfolding in_elements
elements-injective s t e = ap in_elements e

-- two sets are compared by their keys
pub same_elements : (set set' : FinSet int_cmp) (keys keys' : Keys) (answer : Bool) → from_list keys ≡ set
    → from_list keys' ≡ set' → IsStrictlySortedBy int_cmp keys → IsStrictlySortedBy int_cmp keys'
    → Decides answer (keys ≡ keys') → Decides answer (elements set ≡ elements set')
same_elements set set' keys keys' answer is is' ordered ordered' decides = (
  λ b. ap elements (sym is ∙ ap from_list (decides.0 b) ∙ is'),
  λ same. decides.1 (from_list-injective keys keys' ordered ordered' (is ∙ elements-injective set set' same ∙ sym is')),
)
