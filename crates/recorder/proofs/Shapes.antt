-- The reply that an operation gives has the shape of its replies: by cases on the operation (`shape_next`), and along
-- a valid order by induction (`shape_ordered`).
use Rattle.std.proofs.Common.{◌≡◌, ℤ, ◌+ℤ◌, Bool, true, false, cond, not, int_eq, inl, inr, List, [], ◌∷◌, Option}
use Rattle.std.proofs.Common.{Some, None, IsSome, IfSome, Contains, refl, sym, ap, subst, ◌∙◌}
use Rattle.std.proofs.lemmas.Option.{same_Some}
use Rattle.model.specs.declared.Kind.{Kind}
use Rattle.model.specs.declared.AnyOp.{AnyOp}
use Rattle.model.specs.declared.AnyOp.TheVariants.{Enqueue, Dequeue, Push, Pop, Insert, ExtractMin, Write, Read}
use Rattle.model.specs.declared.AnyOp.TheVariants.{Cas, Clear, Create, Put, Get, Del, PutIfAbsent, Replace, Assoc}
use Rattle.model.specs.declared.AnyOp.TheVariants.{Dissoc, Acquire, Release, Add, Remove, Has, FetchAdd, GetCount}
use Rattle.model.specs.declared.AnyOp.TheVariants.{LockBy, UnlockBy}
use Rattle.model.specs.declared.AnyReply.{AnyReply}
use Rattle.model.specs.declared.AnyReply.TheVariants.{Value, Swapped, NotSwapped, Flag}
use Rattle.model.specs.Objects.{Content, queue, stack, heap, register, table, mutex, elements, count, owner}
use Rattle.model.specs.Objects.{empty, contains_value, has_value, is_absent, is_i64, stepped, next}
use Rattle.model.specs.Orders.{Call, Return, RepliesAlong, IsValidOrder}
use Rattle.model.specs.Lists.{In}
use Rattle.model.proofs.Lists.{in_from_contains, all_at}
use Rattle.std.specs.FinMap as map
use Rattle.std.specs.FinSet as set
use Rattle.events.specs.Events.{HasShape}

-- two steps with the same result have one reply, so its shape too
shaped : (op : AnyOp) (content content' : Content) (reply reply' : AnyReply) → HasShape op reply
    → ◌≡◌ {A = Option (Content × AnyReply)} (Some (content, reply)) (Some (content', reply')) → HasShape op reply'
shaped op content content' reply reply' h e =
    subst (HasShape op) (ap (λ (z : Content × AnyReply). z.1) (same_Some (content, reply) (content', reply') e)) h

never : (op : AnyOp) (d : Content) (r : AnyReply) → ◌≡◌ {A = Option (Content × AnyReply)} None (Some (d, r))
    → HasShape op r
never op d r e = absurd (cc)

-- of an operation that replies a value or none, and of one that replies whether it was so
of_value : (op : AnyOp) → HasShape op (Value None) → ((w : ℤ) → HasShape op (Value (Some w)))
    → (w : Option ℤ) → HasShape op (Value w)
of_value op h k None = h
of_value op h k (Some w) = k w

of_flag : (op : AnyOp) → HasShape op (Flag true) → HasShape op (Flag false) → (so : Bool) → HasShape op (Flag so)
of_flag op h k true = h
of_flag op h k false = k

-- the clauses stand as those of `next` do
pub shape_next : (c : Content) (op : AnyOp) (d : Content) (r : AnyReply) → next c op ≡ Some (d, r) → HasShape op r
shape_next (queue vs) (Enqueue x) d r e = shaped (Enqueue x) _ d _ r refl e
shape_next (queue []) Dequeue d r e = shaped Dequeue _ d _ r refl e
shape_next (queue (v ∷ vs)) Dequeue d r e = shaped Dequeue _ d _ r refl e
shape_next (stack vs) (Push x) d r e = shaped (Push x) _ d _ r refl e
shape_next (stack []) Pop d r e = shaped Pop _ d _ r refl e
shape_next (stack (v ∷ vs)) Pop d r e = shaped Pop _ d _ r refl e
shape_next (heap vs) (Insert x) d r e = shaped (Insert x) _ d _ r refl e
shape_next (heap []) ExtractMin d r e = shaped ExtractMin _ d _ r refl e
shape_next (heap (v ∷ vs)) ExtractMin d r e = shaped ExtractMin _ d _ r refl e
shape_next (register v) (Write x) d r e = shaped (Write x) _ d _ r refl e
shape_next (register v) Read d r e = shaped Read _ d _ r (of_value Read refl (λ w. refl) v) e
shape_next (register v) (Cas x y) d r e = cas (contains_value v x) e
  where
    cas : (b : Bool) → ◌≡◌ {A = Option (Content × AnyReply)}
        (cond b (Some (register (Some y), Swapped x y)) (Some (register v, NotSwapped))) (Some (d, r))
        → HasShape (Cas x y) r
    cas true f = shaped (Cas x y) _ d _ r refl f
    cas false f = shaped (Cas x y) _ d _ r refl f
shape_next (register v) Clear d r e = shaped Clear _ d _ r refl e
shape_next (register None) (Create x) d r e = shaped (Create x) _ d _ r refl e
shape_next (register (Some v)) (Create x) d r e = shaped (Create x) _ d _ r refl e
shape_next (table m) (Put x y) d r e = shaped (Put x y) _ d _ r (of_value (Put x y) refl (λ w. refl) (map.get m x)) e
shape_next (table m) (Get x) d r e = shaped (Get x) _ d _ r (of_value (Get x) refl (λ w. refl) (map.get m x)) e
shape_next (table m) (Del x) d r e = shaped (Del x) _ d _ r (of_value (Del x) refl (λ w. refl) (map.get m x)) e
shape_next (table m) (PutIfAbsent x y) d r e =
    shaped (PutIfAbsent x y) _ d _ r (of_flag (PutIfAbsent x y) refl refl (is_absent m x)) e
shape_next (table m) (Replace x y z) d r e =
    shaped (Replace x y z) _ d _ r (of_flag (Replace x y z) refl refl (has_value m x y)) e
shape_next (table m) (Assoc x y) d r e = shaped (Assoc x y) _ d _ r refl e
shape_next (table m) (Dissoc x) d r e = shaped (Dissoc x) _ d _ r refl e
shape_next (mutex false) Acquire d r e = shaped Acquire _ d _ r refl e
shape_next (mutex true) Release d r e = shaped Release _ d _ r refl e
shape_next (elements s) (Add x) d r e =
    shaped (Add x) _ d _ r (of_flag (Add x) refl refl (not (set.contains s x))) e
shape_next (elements s) (Remove x) d r e =
    shaped (Remove x) _ d _ r (of_flag (Remove x) refl refl (set.contains s x)) e
shape_next (elements s) (Has x) d r e = shaped (Has x) _ d _ r (of_flag (Has x) refl refl (set.contains s x)) e
shape_next (count n) (FetchAdd x) d r e = added (is_i64 (n +ℤ x)) e
  where
    added : (b : Bool) → stepped count (cond b (Some (n +ℤ x, Value (Some n))) None) ≡ Some (d, r)
        → HasShape (FetchAdd x) r
    added true f = shaped (FetchAdd x) _ d _ r refl f
    added false f = never (FetchAdd x) d r f
shape_next (count n) GetCount d r e = shaped GetCount _ d _ r refl e
shape_next (owner None) (LockBy x) d r e = shaped (LockBy x) _ d _ r refl e
shape_next (owner (Some o)) (UnlockBy x) d r e = unlocked (int_eq o x) e
  where
    unlocked : (b : Bool) → stepped owner (cond b (Some (None, Value None)) None) ≡ Some (d, r)
        → HasShape (UnlockBy x) r
    unlocked true f = shaped (UnlockBy x) _ d _ r refl f
    unlocked false f = never (UnlockBy x) d r f
shape_next c op d r e = never op d r e

-- so has each reply along a list of calls
along : (c : Content) (es : List Call) → RepliesAlong c es → (e : Call) (r : Return) → In e es → e.returned ≡ Some r
    → HasShape e.op r.reply
along c [] h e r i back = absurd i
along c (f ∷ es) h e r i back = elim i [
  | inl same ↦
      let back' : f.returned ≡ Some r = ap (λ (k : Call). k.returned) (sym same) ∙ back in
      let reply : r.reply ≡ h.1 = subst (λ (o : Option Return). IfSome o (λ r. r.reply ≡ h.1)) back' h.3 in
      subst (λ (op : AnyOp). HasShape op r.reply) (ap (λ (k : Call). k.op) (sym same))
      (subst (HasShape f.op) (sym reply) (shape_next c f.op h.0 h.1 h.2))
  | inr j ↦ along h.0 es h.4 e r j back
]

-- and each reply of a call that has a valid order
pub shape_ordered : (kind : Kind) (calls : List Call) (order : List ℤ) → IsValidOrder kind calls order
    → (e : Call) (r : Return) → In e calls → e.returned ≡ Some r → HasShape e.op r.reply
shape_ordered kind calls order v e r i back =
    let some : IsSome e.returned = subst IsSome (sym back) refl in
    along (empty kind) v.entries v.replies e r
    (in_from_contains v.entries e
    (all_at (λ (k : Call). IsSome k.returned → Contains v.entries k) calls v.whole e i some)) back
