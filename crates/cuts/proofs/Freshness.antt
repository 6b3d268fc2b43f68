-- After some calls it is known what an object contains: by cases of the operations, one call leaves the same, on its
-- key, in an object that was empty.
use Rattle.std.proofs.Common.{rules, ◌≡◌, ℤ, pos, ◌+ℤ◌, Bool, true, false, not, cond, [], Option, Some, None}
use Rattle.std.proofs.Common.{IfSome, refl, ap, sym, ◌∙◌, subst, arith}
use Rattle.std.proofs.lemmas.Int.{ints}
use Rattle.std.specs.Ordering.{int_cmp, int_eq}
use Rattle.std.specs.FinMap as map
use Rattle.std.specs.FinSet as set
use Rattle.model.specs.declared.Kind.{Kind}
use Rattle.model.specs.declared.Kind.TheVariants.{Counter}
use Rattle.model.specs.declared.AnyOp.{AnyOp}
use Rattle.model.specs.declared.AnyOp.TheVariants.{Dequeue, Pop, ExtractMin, Write, Read, Cas, Put, Get, Del, Acquire}
use Rattle.model.specs.declared.AnyOp.TheVariants.{Release, Clear, Create, PutIfAbsent, Replace, Assoc, Dissoc, Add}
use Rattle.model.specs.declared.AnyOp.TheVariants.{Remove, Has, FetchAdd, GetCount, LockBy, UnlockBy}
use Rattle.model.specs.declared.AnyReply.{AnyReply}
use Rattle.model.specs.declared.AnyReply.TheVariants.{Value, Swapped, NotSwapped, Flag}
use Rattle.model.specs.Objects.{kind_of, Content, queue, stack, heap, register, table, mutex, elements, count, owner}
use Rattle.model.specs.Objects.{empty, contains_value, next, inserted_if, is_absent, has_value, is_i64}
use Rattle.cuts.specs.Kinds.Keeping.{fits}
use Rattle.cuts.specs.Kinds.Starts.{key_of, leaves, leaves_count}
use Rattle.cuts.proofs.Contents.{IsShadow}
use Rattle.cuts.proofs.Booleans.{false_is_not_true, same_by_test}
use Rattle.cuts.proofs.Tables.{get-insert, get-remove, contains-insert, contains-remove}
use Rattle.cuts.proofs.Steps.{adds, frees}

-- the keys that a part on one key keeps: that key; and no kind but a map has keys
abbrev pub on_key : Option ℤ → ℤ → Bool
on_key None q = true
on_key (Some k) q = int_eq q k

abbrev pub is_free : Option ℤ → Bool
is_free None = true
is_free (Some k) = false

pub free_keeps : (key : Option ℤ) → is_free key ≡ true → (v : ℤ) → on_key key v ≡ true
free_keeps None e v = refl
free_keeps (Some k) e v = absurd (false_is_not_true e)

-- a part that keeps all calls on a key is closed
pub all_fit : (op : AnyOp) (key : Option ℤ) (o : Option AnyReply) → key_of op ≡ key
    → fits (is_free key) (on_key key) true op o ≡ true
all_fit op key o e = grind arith

-- what a part begins with, where the whole contains this after the call
abbrev pub Begins : (ℤ → Bool) → Kind → Option (AnyOp × AnyReply) → Content → Type 0
Begins keeps kind None after = IsShadow keeps after (empty kind)
Begins keeps kind (Some first) after =
    (d : Content) × (next (empty kind) first.0 ≡ Some (d, first.1)) × IsShadow keeps after d

abbrev Tells : AnyOp → AnyReply → Content → Type 0
Tells op reply after = IfSome (leaves op reply) (λ first. Begins (on_key (key_of op)) (kind_of op) first after)

at_key : (m n : map.FinMap int_cmp ℤ) (k : ℤ) → map.get n k ≡ map.get m k
    → IsShadow (on_key (Some k)) (table m) (table n)
at_key m n k e = λ q i. subst (λ (z : ℤ). map.get n z ≡ map.get m z) (sym (same_by_test q k i)) e

begun_put : (k v : ℤ) → next (table map.empty) (Put k v) ≡ Some (table (map.insert map.empty k v), Value None)
begun_put k v = ap (λ (z : Option ℤ). Some (table (map.insert map.empty k v), Value z))
    (map.get-empty {X = ℤ} int_cmp k)

tells_get : (m : map.FinMap int_cmp ℤ) (k : ℤ) (o : Option ℤ) → map.get m k ≡ o → Tells (Get k) (Value o) (table m)
tells_get m k None e = at_key m map.empty k (map.get-empty {X = ℤ} int_cmp k ∙ sym e)
tells_get m k (Some v) e = (
  table (map.insert map.empty k v),
  begun_put k v,
  at_key m (map.insert map.empty k v) k
      (grind (arith, ints, get-insert)),
)

-- a removal
tells_gone : (m : map.FinMap int_cmp ℤ) (k : ℤ) → IsShadow (on_key (Some k)) (table (map.remove m k)) (table map.empty)
tells_gone m k =
    at_key (map.remove m k) map.empty k (map.get-empty {X = ℤ} int_cmp k ∙ grind (arith, ints, get-remove))

-- a put that took place, and one that did not
tells_put : (before : map.FinMap int_cmp ℤ) (key value : ℤ)
    → Begins (on_key (Some key)) (kind_of (Put key value)) (Some (Put key value, Value None))
    (table (map.insert before key value))
tells_put before key value = (
  table (map.insert map.empty key value),
  begun_put key value,
  at_key (map.insert before key value) (map.insert map.empty key value) key (grind (arith, ints, get-insert)),
)

-- a put where the key is absent
tells_absent : (before : map.FinMap int_cmp ℤ) (key value : ℤ) (took : Bool)
    → Tells (PutIfAbsent key value) (Flag took) (table (inserted_if took before key value))
tells_absent before key value true = tells_put before key value
tells_absent before key value false = tt

-- a replacement
tells_replace : (before : map.FinMap int_cmp ℤ) (key old new : ℤ) (took : Bool)
    → Tells (Replace key old new) (Flag took) (table (inserted_if took before key new))
tells_replace before key old new true = tells_put before key new
tells_replace before key old new false = tt

-- ---- sets

at_element : (s t : set.FinSet int_cmp) (v : ℤ) → set.contains t v ≡ set.contains s v
    → IsShadow (on_key (Some v)) (elements s) (elements t)
at_element s t v e = λ q i. subst (λ (z : ℤ). set.contains t z ≡ set.contains s z) (sym (same_by_test q v i)) e

without : (v : ℤ) → set.contains (set.empty {R = int_cmp}) v ≡ false
without v = set.contains-empty int_cmp v

tells_there : (s : set.FinSet int_cmp) (v : ℤ) → set.contains s v ≡ true
    → Begins (on_key (Some v)) (kind_of (Add v)) (Some (Add v, Flag true)) (elements s)
tells_there s v e = (
  elements (set.insert set.empty v),
  ap (λ (z : Bool). Some (elements (set.insert set.empty v), Flag (not z))) (without v),
  at_element s (set.insert set.empty v) v (grind (arith, ints, contains-insert)),
)

tells_has : (s : set.FinSet int_cmp) (v : ℤ) (t : Bool) → set.contains s v ≡ t → Tells (Has v) (Flag t) (elements s)
tells_has s v true e = tells_there s v e
tells_has s v false e = at_element s set.empty v (without v ∙ sym e)

-- ---- counters

zero_and : (n : ℤ) → (pos 0 +ℤ n) ≡ n
zero_and n = grind (arith, ints)

tells_count : (n : ℤ) → IfSome (leaves_count n) (λ first. Begins (on_key None) Counter first (count n))
tells_count n = go (is_i64 n) refl
  where
    go : (t : Bool) → is_i64 n ≡ t → IfSome (cond t (Some (Some (FetchAdd n, Value (Some (pos 0))))) None)
        (λ first. Begins (on_key None) Counter first (count n))
    go true e = (count n, rw (zero_and n) (rw e), refl)
    go false e = tt

pub tells : (c : Content) (op : AnyOp) → IfSome (next c op) (λ p. Tells op p.1 p.0)
tells (queue []) Dequeue = refl
tells (stack []) Pop = refl
tells (heap []) ExtractMin = (refl, tt)
tells (register c) (Write v) = (register (Some v), refl, λ k. refl)
tells (register None) Read = refl
tells (register (Some v)) Read = (register (Some v), refl, λ k. refl)
tells (register c) (Cas a b) = go (contains_value c a)
  where
    go : (t : Bool) → IfSome {T = Content × AnyReply}
        (cond t (Some (register (Some b), Swapped a b)) (Some (register c, NotSwapped))) (λ p. Tells (Cas a b) p.1 p.0)
    go true = (register (Some b), refl, λ k. refl)
    go false = tt
tells (table m) (Put k v) = tells_put m k v
tells (table m) (Get k) = tells_get m k (map.get m k) refl
tells (table m) (Del k) = tells_gone m k
tells (mutex false) Acquire = (mutex true, refl, refl)
tells (mutex true) Release = refl
tells (register c) Clear = refl
tells (register None) (Create v) = (register (Some v), refl, λ k. refl)
tells (table m) (PutIfAbsent k v) = tells_absent m k v (is_absent m k)
tells (table m) (Replace k v w) = tells_replace m k v w (has_value m k v)
tells (table m) (Assoc k v) = tells_put m k v
tells (table m) (Dissoc k) = tells_gone m k
tells (elements s) (Add v) = tells_there (set.insert s v) v (grind (arith, ints, contains-insert))
tells (elements s) (Remove v) = at_element (set.remove s v) set.empty v
    (without v ∙ grind (arith, ints, contains-remove))
tells (elements s) (Has v) = tells_has s v (set.contains s v) refl
tells (count c) (FetchAdd n) = adds (λ p. Tells (FetchAdd n) p.1 p.0) c n (λ does. tells_count (c +ℤ n))
tells (count c) GetCount = tells_count c
tells (owner None) (LockBy o) = (owner (Some o), refl, refl)
tells (owner (Some p)) (UnlockBy o) = frees (λ q. Tells (UnlockBy o) q.1 q.0) p o (λ does. refl)
tells c op = search rules
