-- The worked events. Each shard has one enqueue or nothing, and so is proper, and linearizable by the order of its one
-- call: so a proper full history is linearizable. Where a process invokes twice before a response, the full history is
-- neither. In the lemmas p is a process, n and m are the numbers of an invocation and its response, x is an object, v a
-- value.
use Rattle.std.proofs.Common.{◌≡◌, ℕ, ℤ, pos, ◌==◌, ◌<◌, Bool, true, false, cond, List, [], ◌∷◌}
use Rattle.std.proofs.Common.{filter, Some, lit<, refl, sym, subst, arith}
use Rattle.std.proofs.lemmas.Bool.{eqb-true}
use Rattle.std.proofs.lemmas.Bool.Decides.{nat_tests}
use Rattle.std.proofs.lemmas.List.{map-id}
use Rattle.model.specs.declared.Kind.TheVariants.{Queue}
use Rattle.model.specs.declared.AnyOp.TheVariants.{Enqueue}
use Rattle.model.specs.declared.AnyReply.TheVariants.{Value}
use Rattle.model.specs.Objects.{queue}
use Rattle.model.specs.Orders.{calls_on, IsValidOrder}
use Rattle.model.specs.Lists.{In}
use Rattle.model.proofs.Lists.{all_from_pairs}
use Rattle.locality.proofs.WrittenOut.{valid_order}
use Rattle.locality.proofs.WorkedOrders.{returned}
use Rattle.events.specs.declared.event.Action.TheVariants.{Invoke, Ok}
use Rattle.events.specs.declared.event.Event.{Event}
use Rattle.events.specs.Events.{denoted, kind_of_object, IsProper}
use Rattle.events.proofs.ProcessRuns.{idle, Runs}
use Rattle.shards.specs.Shards.{events_on, AreRenumbered, AreShards, DenoteLinearizable}
use Rattle.shards.specs.WorkedShards.{own_shard, does, one_each, renumbered_shard, shards_of_one_each}
use Rattle.shards.specs.WorkedShards.{two_at_once, shards_of_two_at_once}
use Rattle.shards.proofs.Proper.{proper_from, proper_on}
use Rattle.shards.proofs.RenamedObjects.{linearizable_by}
use Rattle.shards.proofs.WholeAndShards.{decided_by_shards}

-- one enqueue that returned
abbrev enqueued : ℕ → ℕ → ℕ → ℕ → ℤ → List Event
enqueued p n m x v = does n p x (Invoke (Enqueue v)) ∷ does m p x (Ok (Value (Some v))) ∷ []

-- two such events are proper
enqueued-proper : (p n m x : ℕ) (v : ℤ) → n < m → IsProper (enqueued p n m x v)
enqueued-proper p n m x v less = proper_from (λ y. Queue) (enqueued p n m x v)
    (all_from_pairs (λ a b. a.number < b.number) (enqueued p n m x v) (λ e i. grind arith, (λ e i. absurd i, tt)))
    (λ q. grind (arith, nat_tests)) (λ e op i q. grind arith)

-- of events that denote one enqueue the order with its call alone is valid
one_call : (es : List Event) (x n m : ℕ) (v : ℤ) → IsProper es → kind_of_object es x ≡ Queue
    → ((e : Event) → In e es → e.object ≡ x)
    → calls_on x (denoted es) ≡ returned n (Enqueue v) m (Some v) ∷ [] → DenoteLinearizable es
one_call es x n m v proper kind objects calls = linearizable_by es proper (λ e i.
    rw (objects e i, kind, calls) (pos n ∷ [], valid))
  where
    valid : IsValidOrder Queue (returned n (Enqueue v) m (Some v) ∷ []) (pos n ∷ [])
    valid = valid_order Queue (returned n (Enqueue v) m (Some v) ∷ []) (returned n (Enqueue v) m (Some v) ∷ []) refl
        ((0, lit< tt, refl), tt) (λ s. (0, lit< tt, refl), tt) (queue (v ∷ []), Value (Some v), refl, refl, tt)

nothing-proper : IsProper []
nothing-proper = proper_from (λ y. Queue) [] (λ i j d l m. absurd (omega arith)) (λ p. tt) (λ e op i q. absurd i)

pub nothing-linearizable : DenoteLinearizable []
nothing-linearizable = linearizable_by [] nothing-proper (λ e i. absurd i)

abbrev pub IsGood : List Event → Type 0
IsGood es = IsProper es × DenoteLinearizable es

first-good : IsGood (enqueued 3 0 2 1 (pos 7))
first-good =
    let proper = enqueued-proper 3 0 2 1 (pos 7) (lit< tt) in
    (proper, one_call (enqueued 3 0 2 1 (pos 7)) 1 0 2 (pos 7) proper refl (λ e i. grind arith) refl)

second-good : IsGood (enqueued 3 1 3 2 (pos 8))
second-good =
    let proper = enqueued-proper 3 1 3 2 (pos 8) (lit< tt) in
    (proper, one_call (enqueued 3 1 3 2 (pos 8)) 2 1 3 (pos 8) proper refl (λ e i. grind arith) refl)

renumbered_shard-good : IsGood renumbered_shard
renumbered_shard-good =
    let proper = enqueued-proper 4 0 1 2 (pos 8) (lit< tt) in
    (proper, one_call renumbered_shard 2 0 1 (pos 8) proper refl (λ e i. grind arith) refl)

nothing-good : IsGood []
nothing-good = (nothing-proper, nothing-linearizable)

-- no shard has both objects
not_both : (s : ℕ) → (1 == s) ≡ true → (2 == s) ≡ true → ⊥
not_both s q r = omega (arith, eqb-true 1 s q, eqb-true 2 s r)

-- ---- a process that has two operations at once

-- what a shard has of some events: those on object 1, or not, and those on object 2, or not
abbrev shard_with : List Event → Bool → Bool → List Event
shard_with es one two = filter (λ e. cond (e.object == 1) one two) es

two_at_once-shard : (one two : Bool) → (one ≡ true → two ≡ true → ⊥) → IsGood (shard_with two_at_once one two)
two_at_once-shard true true apart = absurd (apart refl refl)
two_at_once-shard true false apart = first-good
two_at_once-shard false true apart = second-good
two_at_once-shard false false apart = nothing-good

pub two_at_once-shards : (s : ℕ) → IsGood (shards_of_two_at_once s)
two_at_once-shards s = two_at_once-shard (1 == s) (2 == s) (not_both s)

pub two_at_once-divided : AreShards own_shard (λ x. x) two_at_once shards_of_two_at_once
two_at_once-divided s =
    let shard = shards_of_two_at_once s in
    subst (λ es. AreRenumbered es shard) (sym (map-id shard))
    (record { same = refl; rising = (two_at_once-shards s).0.rising })

pub two_at_once-refused : ¬ IsProper two_at_once
two_at_once-refused proper = (proper.each (does 0 3 1 (Invoke (Enqueue (pos 7))) ∷ [])
    (does 2 3 1 (Ok (Value (Some (pos 7)))) ∷ does 3 3 2 (Ok (Value (Some (pos 8)))) ∷ [])
    (does 1 3 2 (Invoke (Enqueue (pos 8)))) refl).0

pub two_at_once-not_linearizable : ¬ DenoteLinearizable two_at_once
two_at_once-not_linearizable l = cc (l.completes.well_formed 3).0

-- ---- two processes, of which each has one operation

pub one_each-proper : IsProper one_each
one_each-proper = proper_from (λ y. Queue) one_each
    (all_from_pairs (λ (a b : Event). a.number < b.number) one_each (grind arith)) runs (λ e op i q. grind arith)
  where
    -- process 3 alone invokes and returns, or process 4 alone, or neither does anything
    runs : (p : ℕ) → Runs p idle one_each
    runs p = grind (arith, nat_tests)

-- the shard with object 2 has numbers of its own, and another has one enqueue or nothing
one_each-shard : (one two : Bool) → (one ≡ true → two ≡ true → ⊥)
    → IsGood (cond two renumbered_shard (shard_with one_each one two))
one_each-shard one true apart = renumbered_shard-good
one_each-shard true false apart = first-good
one_each-shard false false apart = nothing-good

one_each-good : (s : ℕ) → IsGood (shards_of_one_each s)
one_each-good s = one_each-shard (1 == s) (2 == s) (not_both s)

pub one_each-divided : AreShards own_shard (λ x. x) one_each shards_of_one_each
one_each-divided s = subst (λ es. AreRenumbered es (shards_of_one_each s))
    (sym (map-id (events_on (λ x. own_shard x == s) one_each))) (go (2 == s) refl)
  where
    go : (b : Bool) → (2 == s) ≡ b
        → AreRenumbered (events_on (λ x. x == s) one_each) (cond b renumbered_shard (events_on (λ x. x == s) one_each))
    go true q = subst (λ t. AreRenumbered (events_on (λ x. x == t) one_each) renumbered_shard) (eqb-true 2 s q)
        (record { same = refl; rising = (enqueued-proper 4 0 1 2 (pos 8) (lit< tt)).rising })
    go false q = record { same = refl; rising = (proper_on (λ x. x == s) one_each one_each-proper).rising }

pub one_each-shards : (s : ℕ) → DenoteLinearizable (shards_of_one_each s)
one_each-shards s = (one_each-good s).1

pub one_each-linearizable : DenoteLinearizable one_each
one_each-linearizable =
    (decided_by_shards own_shard (λ x. x) one_each shards_of_one_each one_each-proper (λ x y m n s q. q)
    one_each-divided).1 one_each-shards
