-- An operation on a key of a map or set changes what the key has, and to undo it gives the key back what it had
-- (`key_step`, `sets_back`). A lemma for each operation, by what the table has at one key and at the others.
use Rattle.std.proofs.Common.{◌≡◌, ℤ, Bool, true, false, cond, Option, Some, None, Ordering, Equal, refl, ap, sym, ◌∙◌}
use Rattle.std.specs.Ordering.{int_cmp, is_eq, eq_by_cmp}
use Rattle.std.specs.Cmp.{int_cmp_total}
use Rattle.std.specs.FinMap.{get, insert, remove, get-insert, get-remove, same_map, int_cmp-IsAntisymmetric}
use Rattle.model.specs.declared.AnyOp.{AnyOp}
use Rattle.model.specs.declared.AnyReply.{AnyReply}
use Rattle.model.specs.declared.AnyReply.TheVariants.{Value}
use Rattle.model.specs.Objects.{Content, Table, next, table, mutex, inserted_if, has_value, is_absent}
use Rattle.seq_objects.specs.declared.map_object.MapOp.{MapOp}
use Rattle.seq_objects.specs.declared.map_object.MapOp.TheVariants.{Put, Get, Del, PutIfAbsent, Replace, Assoc, Dissoc}
use Rattle.seq_objects.specs.Operations.{map_op}
use Rattle.order_search.specs.declared.step.Step.{Step}
use Rattle.order_search.specs.declared.step.Undo.{Undo}
use Rattle.order_search.specs.declared.step.Undo.TheVariants.{SetKey}
use Rattle.order_search.specs.Undoing.{undone, IsStep}
use Rattle.order_search.specs.Kinds.Map.{map_key, value_of_reply}

-- a key that is given back what it had reads as before, and so does each other key
looked : (before : Table) (other key : ℤ) (now : Option ℤ) (rank : Ordering) → rank ≡ int_cmp other key
    → cond (is_eq rank) (get before key) (cond (is_eq rank) now (get before other)) ≡ get before other
looked before other key now Equal e = ap (get before) (sym (int_cmp-IsAntisymmetric other key (sym e)))
looked before other key now rank e = refl

-- after a change of one key, this key is given back what it had
back : (before changed : Table) (key : ℤ) (now had : Option ℤ) → ((q : ℤ)
    → get changed q ≡ cond (eq_by_cmp int_cmp q key) now (get before q))
    → had ≡ get before key → undone (SetKey key had) (table changed) ≡ table before
back before changed key now None at e =
    ap table (same_map int_cmp_total int_cmp-IsAntisymmetric _ _ (λ q.
    rw (get-remove int_cmp_total changed key q, at q, e) (looked before q key now (int_cmp q key) refl)))
back before changed key now (Some v) at e =
    ap table (same_map int_cmp_total int_cmp-IsAntisymmetric _ _ (λ q.
    rw (get-insert int_cmp_total changed key v q, at q, e) (looked before q key now (int_cmp q key) refl)))

-- a key that is given what it has changes nothing
unchanged : (before : Table) (key other : ℤ) (rank : Ordering) → rank ≡ int_cmp other key
    → get before other ≡ cond (is_eq rank) (get before key) (get before other)
unchanged before key other Equal e = ap (get before) (int_cmp-IsAntisymmetric other key (sym e))
unchanged before key other rank e = refl

back_if : (so : Bool) (m : Table) (k v : ℤ) → undone (SetKey k (get m k)) (table (inserted_if so m k v)) ≡ table m
back_if true m k v = back m (insert m k v) k (Some v) (get m k) (get-insert int_cmp_total m k v) refl
back_if false m k v = back m m k (get m k) (get m k) (λ q. unchanged m k q (int_cmp q k) refl) refl

back_removed : (m : Table) (k : ℤ) → undone (SetKey k (get m k)) (table (remove m k)) ≡ table m
back_removed m k = back m (remove m k) k None (get m k) (get-remove int_cmp_total m k) refl

-- ---- what an operation left, and replied

left : Option (Content × AnyReply) → Content
left None = mutex false
left (Some p) = p.0

replied : Option (Content × AnyReply) → AnyReply
replied None = Value None
replied (Some p) = p.1

-- the content and the reply of an operation that is possible
abbrev pub answer : Content → AnyReply → Option (Content × AnyReply)
answer c r = Some (c, r)

-- equal answers have equal contents and replies
pub same_answer : (one other : Content) (reply reply' : AnyReply) → answer one reply ≡ answer other reply'
    → (one ≡ other) × (reply ≡ reply')
unfolding left replied
same_answer c d r t e = (ap left e, ap replied e)

-- ---- the step of an operation on a key

-- the operation leaves n of m, and replies r
abbrev Leaves : Table → MapOp → Table → AnyReply → Type 0
Leaves m op n r = next (table m) (map_op op) ≡ answer (table n) r

-- the key of the operation gets back what it had
abbrev sets_back : Table → MapOp → Content → Content
sets_back m op c = undone (SetKey (map_key op) (get m (map_key op))) c

back_after : (m : Table) (op : MapOp) → sets_back m op (left (next (table m) (map_op op))) ≡ table m
unfolding left
back_after m (Put k v) = back_if true m k v
back_after m (Get k) = back_if false m k k
back_after m (Del k) = back_removed m k
back_after m (PutIfAbsent k v) = back_if (is_absent m k) m k v
back_after m (Replace k a b) = back_if (has_value m k a) m k b
back_after m (Assoc k v) = back_if true m k v
back_after m (Dissoc k) = back_removed m k

key_back : (m n : Table) (op : MapOp) (r : AnyReply) → Leaves m op n r → sets_back m op (table n) ≡ table m
unfolding left
key_back m n op r e = ap (λ x. sets_back m op (left x)) (sym e) ∙ back_after m op

-- the step of an operation on a key, and what the key had undoes it
key_step : (before after : Table) (key : ℤ) (was : Option ℤ) (op : MapOp) (reply : AnyReply) → map_key op ≡ key
    → was ≡ get before key → Leaves before op after reply
    → IsStep (table before) (map_op op) (table after) record { reply = reply; undo = SetKey key was }
key_step before after key was op reply at had e = record {
  does = e;
  back = rw had (ap (λ j. undone (SetKey j (get before j)) (table after)) (sym at) ∙ key_back before after op reply e);
}

-- a step on a key that was read first
pub read_step : (before between after : Table) (key : ℤ) (was : Option ℤ) (op : MapOp) (found reply : AnyReply)
    → map_key op ≡ key
    → Leaves before (Get key) between found → was ≡ value_of_reply found → Leaves between op after reply
    → IsStep (table before) (map_op op) (table after) record { reply = reply; undo = SetKey key was }
read_step before between after key was op found reply at read told e =
    let both = same_answer (table between) (table before) found (Value (get before key)) (sym read) in
    let same : between ≡ before = cc (both.0) in
    key_step before after key was op reply at (told ∙ ap value_of_reply both.1)
    (ap (λ x. next (table x) (map_op op)) (sym same) ∙ e)

-- a step whose reply is what the key had
told_step : (before after given : Table) (key : ℤ) (was : Option ℤ) (called : AnyOp) (op : MapOp) (reply : AnyReply)
    → called ≡ map_op op
    → map_key op ≡ key → Leaves before op given (Value (get before key)) → Leaves before op after reply
    → was ≡ value_of_reply reply
    → IsStep (table before) called (table after) record { reply = Value was; undo = SetKey key was }
told_step before after given key was called op reply is at gives e told =
    let value = (same_answer (table after) (table given) reply (Value (get before key)) (sym e ∙ gives)).1 in
    let had : was ≡ get before key = told ∙ ap value_of_reply value in
    let step = key_step before after key was op reply at had e in record {
      does = ap (next (table before)) is ∙ e ∙ ap (answer (table after)) (value ∙ ap Value (sym had));
      back = step.back;
    }

-- the step of a put, and what undoes it
pub put_step : (before after : Table) (key value : ℤ) (was : Option ℤ) (called : AnyOp) (reply : AnyReply)
    → called ≡ map_op (Put key value) → Leaves before (Put key value) after reply → was ≡ value_of_reply reply
    → IsStep (table before) called (table after) record { reply = Value was; undo = SetKey key was }
put_step before after key value was called reply is e told =
    told_step before after (insert before key value) key was called (Put key value) reply is refl refl e told

-- the step of a removal of a key, and what undoes it
pub del_step : (before after : Table) (key : ℤ) (was : Option ℤ) (called : AnyOp) (reply : AnyReply)
    → called ≡ map_op (Del key) → Leaves before (Del key) after reply → was ≡ value_of_reply reply
    → IsStep (table before) called (table after) record { reply = Value was; undo = SetKey key was }
del_step before after key was called reply is e told =
    told_step before after (remove before key) key was called (Del key) reply is refl refl e told

-- what holds of a step holds of one that equals it
pub same_step : (before after : Content) (op : AnyOp) (step other : Step) → step ≡ other
    → IsStep before op after other → IsStep before op after step
same_step before after op step other is s = rw is s

-- a step with the same reply, named otherwise
pub reply_step : (before after : Table) (op : AnyOp) (undo : Undo) (reply other : AnyReply) → other ≡ reply
    → IsStep (table before) op (table after) record { reply = reply; undo = undo }
    → IsStep (table before) op (table after) record { reply = other; undo = undo }
reply_step before after op undo reply other is step =
    record { does = step.does ∙ ap (answer (table after)) (sym is); back = step.back }
