-- Small histories that show what the definitions say, of object 0 if none is named.
use Rattle.std.specs.Prelude.{ℕ, ℤ, pos, List, [], ◌∷◌, Option, Some, None}
use Rattle.model.specs.declared.AnyOp.{AnyOp}
use Rattle.model.specs.declared.AnyOp.TheVariants.{Enqueue, Dequeue, Acquire, Release}
use Rattle.model.specs.declared.AnyReply.TheVariants.{Value}
use Rattle.model.specs.Histories.{Inv, Res}
use Rattle.model.specs.Orders.{Numbered}

-- on this object, at this number, this process invokes the operation
abbrev pub invoke_on : ℕ → ℕ → ℕ → AnyOp → Numbered
invoke_on x n p op = record { number = n; event = Inv p x op }

-- on this object, at this number, this process has the reply: a value, or nil
abbrev pub reply_on : ℕ → ℕ → ℕ → Option ℤ → Numbered
reply_on x n p v = record { number = n; event = Res p x (Value v) }

-- on object 0, at this number, this process invokes the operation
abbrev pub invoke : ℕ → ℕ → AnyOp → Numbered
invoke n p op = invoke_on 0 n p op

-- on object 0, at this number, this process has the reply: a value, or nil
abbrev pub reply : ℕ → ℕ → Option ℤ → Numbered
reply n p v = reply_on 0 n p v

-- One process enqueues 1, and then dequeues 1.
abbrev pub enqueued_then_dequeued : List Numbered
enqueued_then_dequeued =
    invoke 0 0 (Enqueue (pos 1))
    ∷ reply 1 0 (Some (pos 1))
    ∷ invoke 2 0 Dequeue
    ∷ reply 3 0 (Some (pos 1))
    ∷ []

-- Process 0 enqueues 1 while process 1 enqueues 2. Then process 0 dequeues 2.
abbrev pub overlapping_enqueues : List Numbered
overlapping_enqueues =
    invoke 0 0 (Enqueue (pos 1))
    ∷ invoke 1 1 (Enqueue (pos 2))
    ∷ reply 2 0 (Some (pos 1))
    ∷ reply 3 1 (Some (pos 2))
    ∷ invoke 4 0 Dequeue
    ∷ reply 5 0 (Some (pos 2))
    ∷ []

-- Process 0 enqueues 1, then process 1 enqueues 2, and then process 0 dequeues 2.
abbrev pub dequeued_out_of_turn : List Numbered
dequeued_out_of_turn =
    invoke 0 0 (Enqueue (pos 1))
    ∷ reply 1 0 (Some (pos 1))
    ∷ invoke 2 1 (Enqueue (pos 2))
    ∷ reply 3 1 (Some (pos 2))
    ∷ invoke 4 0 Dequeue
    ∷ reply 5 0 (Some (pos 2))
    ∷ []

-- Process 1 dequeues 9, which process 0 has begun to enqueue.
abbrev pub dequeued_while_pending : List Numbered
dequeued_while_pending =
    invoke 0 0 (Enqueue (pos 9))
    ∷ invoke 1 1 Dequeue
    ∷ reply 2 1 (Some (pos 9))
    ∷ []

-- Process 1 finds the queue empty, while process 0 has begun to enqueue 9.
abbrev pub found_empty_while_pending : List Numbered
found_empty_while_pending =
    invoke 0 0 (Enqueue (pos 9))
    ∷ invoke 1 1 Dequeue
    ∷ reply 2 1 None
    ∷ []

-- Process 0 enqueues 1. Then process 1 begins to enqueue 2, and process 2 dequeues 2.
abbrev pub pending_overtakes_returned : List Numbered
pending_overtakes_returned =
    invoke 0 0 (Enqueue (pos 1))
    ∷ reply 1 0 (Some (pos 1))
    ∷ invoke 2 1 (Enqueue (pos 2))
    ∷ invoke 3 2 Dequeue
    ∷ reply 4 2 (Some (pos 2))
    ∷ []

-- Process 0 has acquired a mutex. Process 1 asks for it, process 0 releases it, and then process 1
-- has it.
abbrev pub mutex_passed_on : List Numbered
mutex_passed_on =
    invoke 0 0 Acquire
    ∷ reply 1 0 None
    ∷ invoke 2 1 Acquire
    ∷ invoke 3 0 Release
    ∷ reply 4 0 None
    ∷ reply 5 1 None
    ∷ []

-- Two queues, 0 and 1: on each a process begins to dequeue, another enqueues, and the first has the
-- value.
abbrev pub two_queues : List Numbered
two_queues =
    invoke_on 0 0 0 Dequeue
    ∷ invoke_on 1 1 1 Dequeue
    ∷ invoke_on 0 2 2 (Enqueue (pos 7))
    ∷ invoke_on 1 3 3 (Enqueue (pos 8))
    ∷ reply_on 0 4 0 (Some (pos 7))
    ∷ reply_on 1 5 1 (Some (pos 8))
    ∷ reply_on 0 6 2 (Some (pos 7))
    ∷ reply_on 1 7 3 (Some (pos 8))
    ∷ []

-- One process invokes two operations, and neither returned.
abbrev pub invoked_while_pending : List Numbered
invoked_while_pending = invoke 0 0 Dequeue ∷ invoke 1 0 Dequeue ∷ []

-- A response that answers nothing.
abbrev pub returned_unasked : List Numbered
returned_unasked = reply 0 0 None ∷ []

-- A process invokes an operation on object 0, and has a response from object 1.
abbrev pub returned_elsewhere : List Numbered
returned_elsewhere = invoke 0 0 Dequeue ∷ reply_on 1 1 0 None ∷ []

-- The response has a lesser number than its invocation.
abbrev pub numbered_backwards : List Numbered
numbered_backwards = invoke 1 0 Dequeue ∷ reply 0 0 None ∷ []
