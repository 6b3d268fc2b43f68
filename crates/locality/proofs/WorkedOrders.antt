-- Worked histories and a valid order for each: so they are linearizable, by locality. Each fact about their events
-- and calls is shown by computation.
use Rattle.std.proofs.Common.{ℕ, ℤ, pos, true, false, [], ◌∷◌, Option, Some, None, lit<, refl}
use Rattle.std.proofs.lemmas.List.Elements.{All-from_recursion}
use Rattle.model.specs.declared.Kind.TheVariants.{Queue, Mutex}
use Rattle.model.specs.declared.AnyOp.{AnyOp}
use Rattle.model.specs.declared.AnyOp.TheVariants.{Enqueue, Dequeue, Acquire, Release}
use Rattle.model.specs.declared.AnyReply.TheVariants.{Value}
use Rattle.model.specs.Objects.{queue, mutex}
use Rattle.model.specs.Linearizable.{IsLinearizable}
use Rattle.model.specs.Orders.{events, Call, calls_on, IsHistory, IsValidOrder, ProcessCall, calls_in}
use Rattle.locality.specs.Locality.{HasValidOrder}
use Rattle.locality.specs.WorkedHistories.{enqueued_then_dequeued, overlapping_enqueues, dequeued_while_pending}
use Rattle.locality.specs.WorkedHistories.{mutex_passed_on, found_empty_while_pending, two_queues}
use Rattle.locality.proofs.OneKind.{named_kinds}
use Rattle.locality.proofs.WrittenOut.{history, valid_order, linearizable}

-- a call that returned, by its numbers and its reply
abbrev pub returned : ℕ → AnyOp → ℕ → Option ℤ → Call
returned n op at v = record { number = n; op = op; returned = Some (record { at = at; reply = Value v }) }

-- a pending call with this number
abbrev pub pending : ℕ → AnyOp → Call
pending n op = record { number = n; op = op; returned = None }

-- an enqueue and then a dequeue are a history
pub enqueued_then_dequeued-history : IsHistory enqueued_then_dequeued
enqueued_then_dequeued-history = history 1 enqueued_then_dequeued refl

-- the order of the invocations is valid
pub enqueued_then_dequeued-valid : IsValidOrder Queue (calls_on 0 enqueued_then_dequeued) (pos 0 ∷ pos 2 ∷ [])
enqueued_then_dequeued-valid =
    valid_order Queue (calls_on 0 enqueued_then_dequeued)
    (returned 0 (Enqueue (pos 1)) 1 (Some (pos 1)) ∷ returned 2 Dequeue 3 (Some (pos 1)) ∷ []) refl
    ((0, lit< tt, refl), ((1, lit< tt, refl), tt))
    (λ s. (0, lit< tt, refl), (λ s. (1, lit< tt, refl), tt))
    (queue (pos 1 ∷ []), Value (Some (pos 1)), refl, refl, (queue [], Value (Some (pos 1)), refl, refl, tt))

-- an enqueue and then a dequeue of its value are linearizable
pub enqueued_then_dequeued-linearizable : IsLinearizable (λ x. Queue) (events enqueued_then_dequeued)
enqueued_then_dequeued-linearizable =
    linearizable (λ x. Queue) enqueued_then_dequeued enqueued_then_dequeued-history refl
    (pos 0 ∷ pos 2 ∷ [], enqueued_then_dequeued-valid)

-- two enqueues that overlap, and a dequeue, are a history
pub overlapping_enqueues-history : IsHistory overlapping_enqueues
overlapping_enqueues-history = history 2 overlapping_enqueues refl

-- the enqueue that was invoked later comes first in a valid order
pub overlapping_enqueues-valid : IsValidOrder Queue (calls_on 0 overlapping_enqueues) (pos 1 ∷ pos 0 ∷ pos 4 ∷ [])
overlapping_enqueues-valid = valid_order Queue (calls_on 0 overlapping_enqueues)
    (returned 1 (Enqueue (pos 2)) 3 (Some (pos 2)) ∷ returned 0 (Enqueue (pos 1)) 2 (Some (pos 1))
    ∷ returned 4 Dequeue 5 (Some (pos 2)) ∷ []) refl
    ((1, lit< tt, refl), ((0, lit< tt, refl), ((2, lit< tt, refl), tt)))
    (λ s. (1, lit< tt, refl), (λ s. (0, lit< tt, refl), (λ s. (2, lit< tt, refl), tt))) (
      queue (pos 2 ∷ []),
      Value (Some (pos 2)),
      refl,
      refl,
      (
        queue (pos 2 ∷ pos 1 ∷ []),
        Value (Some (pos 1)),
        refl,
        refl,
        (queue (pos 1 ∷ []), Value (Some (pos 2)), refl, refl, tt),
      ),
    )

-- it is linearizable that the later of two enqueues that overlap is dequeued first
pub overlapping_enqueues-linearizable : IsLinearizable (λ x. Queue) (events overlapping_enqueues)
overlapping_enqueues-linearizable =
    linearizable (λ x. Queue) overlapping_enqueues overlapping_enqueues-history refl
    (pos 1 ∷ pos 0 ∷ pos 4 ∷ [], overlapping_enqueues-valid)

-- a dequeue while an enqueue is pending is a history
pub dequeued_while_pending-history : IsHistory dequeued_while_pending
dequeued_while_pending-history = history 2 dequeued_while_pending refl

-- the pending enqueue is in a valid order
pub dequeued_while_pending-valid : IsValidOrder Queue (calls_on 0 dequeued_while_pending) (pos 0 ∷ pos 1 ∷ [])
dequeued_while_pending-valid =
    valid_order Queue (calls_on 0 dequeued_while_pending)
    (pending 0 (Enqueue (pos 9)) ∷ returned 1 Dequeue 2 (Some (pos 9)) ∷ []) refl
    ((0, lit< tt, refl), ((1, lit< tt, refl), tt))
    (λ s. (0, lit< tt, refl), (λ s. (1, lit< tt, refl), tt))
    (queue (pos 9 ∷ []), Value (Some (pos 9)), refl, tt, (queue [], Value (Some (pos 9)), refl, refl, tt))

-- it is linearizable that the value of a pending enqueue is dequeued
pub dequeued_while_pending-linearizable : IsLinearizable (λ x. Queue) (events dequeued_while_pending)
dequeued_while_pending-linearizable =
    linearizable (λ x. Queue) dequeued_while_pending dequeued_while_pending-history refl
    (pos 0 ∷ pos 1 ∷ [], dequeued_while_pending-valid)

-- a dequeue that finds nothing while an enqueue is pending is a history
pub found_empty_while_pending-history : IsHistory found_empty_while_pending
found_empty_while_pending-history = history 2 found_empty_while_pending refl

-- the pending enqueue is left out of a valid order
pub found_empty_while_pending-valid : IsValidOrder Queue (calls_on 0 found_empty_while_pending) (pos 1 ∷ [])
found_empty_while_pending-valid =
    valid_order Queue (calls_on 0 found_empty_while_pending) (returned 1 Dequeue 2 None ∷ []) refl
    ((1, lit< tt, refl), tt)
    (λ s. absurd (cc s), (λ s. (0, lit< tt, refl), tt))
    (queue [], Value None, refl, refl, tt)

-- it is linearizable that a pending enqueue has not taken effect
pub found_empty_while_pending-linearizable : IsLinearizable (λ x. Queue) (events found_empty_while_pending)
found_empty_while_pending-linearizable =
    linearizable (λ x. Queue) found_empty_while_pending found_empty_while_pending-history refl
    (pos 1 ∷ [], found_empty_while_pending-valid)

-- calls on two queues that overlap are a history
pub two_queues-history : IsHistory two_queues
two_queues-history = history 4 two_queues refl

-- the calls on queue 0 have a valid order
pub two_queues-first : IsValidOrder Queue (calls_on 0 two_queues) (pos 2 ∷ pos 0 ∷ [])
two_queues-first = valid_order Queue (calls_on 0 two_queues)
    (returned 2 (Enqueue (pos 7)) 6 (Some (pos 7)) ∷ returned 0 Dequeue 4 (Some (pos 7)) ∷ []) refl
    ((1, lit< tt, refl), ((0, lit< tt, refl), tt))
    (λ s. (1, lit< tt, refl), (λ s. (0, lit< tt, refl), tt))
    (queue (pos 7 ∷ []), Value (Some (pos 7)), refl, refl, (queue [], Value (Some (pos 7)), refl, refl, tt))

-- the calls on queue 1 have a valid order
pub two_queues-second : IsValidOrder Queue (calls_on 1 two_queues) (pos 3 ∷ pos 1 ∷ [])
two_queues-second = valid_order Queue (calls_on 1 two_queues)
    (returned 3 (Enqueue (pos 8)) 7 (Some (pos 8)) ∷ returned 1 Dequeue 5 (Some (pos 8)) ∷ []) refl
    ((1, lit< tt, refl), ((0, lit< tt, refl), tt))
    (λ s. (1, lit< tt, refl), (λ s. (0, lit< tt, refl), tt))
    (queue (pos 8 ∷ []), Value (Some (pos 8)), refl, refl, (queue [], Value (Some (pos 8)), refl, refl, tt))

-- the calls on two queues that overlap are linearizable
pub two_queues-linearizable : IsLinearizable (λ x. Queue) (events two_queues)
two_queues-linearizable =
    let first : HasValidOrder (λ x. Queue) two_queues 0 = (pos 2 ∷ pos 0 ∷ [], two_queues-first) in
    let second : HasValidOrder (λ x. Queue) two_queues 1 = (pos 3 ∷ pos 1 ∷ [], two_queues-second) in
    named_kinds (λ x. Queue) two_queues two_queues-history
    (All-from_recursion (λ (e : ProcessCall). HasValidOrder (λ x. Queue) two_queues e.object) (calls_in two_queues)
    (first, (second, (first, (second, tt)))))

-- a mutex that is passed on is a history
pub mutex_passed_on-history : IsHistory mutex_passed_on
mutex_passed_on-history = history 2 mutex_passed_on refl

-- the release comes before the second acquire in a valid order
pub mutex_passed_on-valid : IsValidOrder Mutex (calls_on 0 mutex_passed_on) (pos 0 ∷ pos 3 ∷ pos 2 ∷ [])
mutex_passed_on-valid =
    valid_order Mutex (calls_on 0 mutex_passed_on)
    (returned 0 Acquire 1 None ∷ returned 3 Release 4 None ∷ returned 2 Acquire 5 None ∷ []) refl
    ((0, lit< tt, refl), ((2, lit< tt, refl), ((1, lit< tt, refl), tt)))
    (λ s. (0, lit< tt, refl), (λ s. (2, lit< tt, refl), (λ s. (1, lit< tt, refl), tt))) (
      mutex true,
      Value None,
      refl,
      refl,
      (mutex false, Value None, refl, refl, (mutex true, Value None, refl, refl, tt)),
    )

-- it is linearizable that a mutex is asked for while it is held, and acquired after its release
pub mutex_passed_on-linearizable : IsLinearizable (λ x. Mutex) (events mutex_passed_on)
mutex_passed_on-linearizable =
    linearizable (λ x. Mutex) mutex_passed_on mutex_passed_on-history refl
    (pos 0 ∷ pos 3 ∷ pos 2 ∷ [], mutex_passed_on-valid)
