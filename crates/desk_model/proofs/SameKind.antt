-- An operation leaves an object of the same kind, and so does a log of operations (`kind_replayed`); a log leaves one
-- content (`replays_once`). By cases on the operation, and induction along the log.
use Rattle.std.proofs.Common.{◌≡◌, Bool, true, false, cond, List, [], ◌∷◌, Option, Some, None}
use Rattle.std.proofs.Common.{refl, sym, ap, subst, ◌∙◌}
use Rattle.std.proofs.lemmas.Option.{same_Some}
use Rattle.model.specs.declared.Kind.{Kind}
use Rattle.model.specs.declared.Kind.TheVariants.{Queue, Stack, Heap, Register, Map, Mutex, Set, Counter, Lock}
use Rattle.model.specs.declared.AnyOp.{AnyOp}
use Rattle.model.specs.declared.AnyOp.TheVariants.{Cas}
use Rattle.model.specs.declared.AnyReply.{AnyReply}
use Rattle.model.specs.declared.AnyReply.TheVariants.{Swapped, NotSwapped}
use Rattle.model.specs.Objects.{Content, queue, stack, heap, register, table, mutex, elements, count, owner, kind_with}
use Rattle.model.specs.Objects.{empty, contains_value, stepped, next, next_queue, next_stack, next_heap, next_register}
use Rattle.model.specs.Objects.{next_map, next_mutex, next_set, next_counter, next_lock}
use Rattle.model.proofs.Objects.{kind_of_empty}
use Rattle.desk_model.specs.World.{AnyEntry, Replays}

-- two steps with the same result leave contents of one kind
after_kind : (content content' : Content) (reply reply' : AnyReply)
    → ◌≡◌ {A = Option (Content × AnyReply)} (Some (content, reply)) (Some (content', reply'))
    → kind_with content' ≡ kind_with content
after_kind content content' reply reply' e = ap kind_with
    (sym (ap (λ (z : Content × AnyReply). z.0) (same_Some (content, reply) (content', reply') e)))

-- what a step of one kind leaves is of that kind
stepped_kind : {C : Type 0} (content : C → Content) (kind : Kind) → ((c : C) → kind_with (content c) ≡ kind)
    → (o : Option (C × AnyReply)) (d : Content) (r : AnyReply) → stepped content o ≡ Some (d, r) → kind_with d ≡ kind
stepped_kind content kind is None d r e = absurd (cc)
stepped_kind content kind is (Some p) d r e = after_kind (content p.0) d p.1 r e ∙ is p.0

kind_next : (c : Content) (op : AnyOp) (d : Content) (r : AnyReply) → next c op ≡ Some (d, r)
    → kind_with d ≡ kind_with c
kind_next (queue vs) op d r e = stepped_kind queue Queue (λ c. refl) (next_queue vs op) d r e
kind_next (stack vs) op d r e = stepped_kind stack Stack (λ c. refl) (next_stack vs op) d r e
kind_next (heap vs) op d r e = stepped_kind heap Heap (λ c. refl) (next_heap vs op) d r e
kind_next (register v) (Cas x y) d r e = cas (contains_value v x) e
  where
    cas : (b : Bool)
        → ◌≡◌ {A = Option (Content × AnyReply)}
        (cond b (Some (register (Some y), Swapped x y)) (Some (register v, NotSwapped))) (Some (d, r))
        → kind_with d ≡ Register
    cas true f = after_kind _ _ _ _ f
    cas false f = after_kind _ _ _ _ f
kind_next (register v) op d r e = stepped_kind register Register (λ c. refl) (next_register v op) d r e
kind_next (table m) op d r e = stepped_kind table Map (λ c. refl) (next_map m op) d r e
kind_next (mutex held) op d r e = stepped_kind mutex Mutex (λ c. refl) (next_mutex held op) d r e
kind_next (elements s) op d r e = stepped_kind elements Set (λ c. refl) (next_set s op) d r e
kind_next (count n) op d r e = stepped_kind count Counter (λ c. refl) (next_counter n op) d r e
kind_next (owner o) op d r e = stepped_kind owner Lock (λ c. refl) (next_lock o op) d r e

replays_kind : (content after : Content) (log : List AnyEntry) → Replays content log after
    → kind_with after ≡ kind_with content
replays_kind content after [] h = ap kind_with (sym h)
replays_kind content after (e ∷ es) (mid, step, later) =
    replays_kind mid after es later ∙ kind_next content e.op mid e.reply step

-- an object that a log leaves has the kind of its first content
pub kind_replayed : (kind : Kind) (log : List AnyEntry) (after : Content) → Replays (empty kind) log after
    → kind_with after ≡ kind
kind_replayed kind log after h = replays_kind (empty kind) after log h ∙ kind_of_empty kind

-- and a log leaves one content
pub replays_once : (content after after' : Content) (log : List AnyEntry) → Replays content log after
    → Replays content log after' → after ≡ after'
replays_once content after after' [] h k = sym h ∙ k
replays_once content after after' (e ∷ es) (mid, step, later) (mid', step', later') =
    let both : ◌≡◌ {A = Option (Content × AnyReply)} (Some (mid, e.reply)) (Some (mid', e.reply)) = sym step ∙ step' in
    let same : mid ≡ mid' = ap (λ (z : Content × AnyReply). z.0) (same_Some (mid, e.reply) (mid', e.reply) both) in
    replays_once mid' after after' es (subst (λ z. Replays z es after) same later) later'
