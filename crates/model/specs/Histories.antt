-- Histories of processes that use objects, after Herlihy and Wing, "Linearizability: A Correctness
-- Condition for Concurrent Objects", TOPLAS 1990, section 2. H stands for a history, P for a
-- process, x for an object.
use Rattle.std.specs.Prelude.{◌≡◌, ℕ, ◌==◌, ◌<◌, ◌&&◌, not, Bool, true, false, IsTrue, ⊤, List, []}
use Rattle.std.specs.Prelude.{◌∷◌, ◌++◌, All, filter, length, if◌then◌else◌}
use Rattle.std.specs.List.{list_any}
use Rattle.model.specs.declared.AnyOp.{AnyOp}
use Rattle.model.specs.declared.AnyReply.{AnyReply}

-- An event is an invocation or a response. It has a process, an object, and an operation or a
-- reply. A history is a list of events.
pub data Event : Type 0 where
  Inv : ℕ → ℕ → AnyOp → Event
  Res : ℕ → ℕ → AnyReply → Event

-- the process of an event
abbrev pub process_of : Event → ℕ
process_of (Inv p x op) = p
process_of (Res p x r) = p

-- the object of an event
abbrev pub object_of : Event → ℕ
object_of (Inv p x op) = x
object_of (Res p x r) = x

-- whether an event is an invocation, and not a response
abbrev pub is_invocation : Event → Bool
is_invocation (Inv p x op) = true
is_invocation (Res p x r) = false

-- H|P: the events of one process, in order
abbrev pub by_process : ℕ → List Event → List Event
by_process p h = filter (λ e. process_of e == p) h

-- H|x: the events of one object, in order
abbrev pub by_object : ℕ → List Event → List Event
by_object x h = filter (λ e. object_of e == x) h

-- whether the first is an invocation and the second a response that matches it: process and object
-- agree
abbrev pub matches : Event → Event → Bool
matches (Inv p x op) (Res q y r) = (p == q) && (x == y)
matches e f = false

-- an invocation is pending if no matching response is among the later events
abbrev pub is_pending : Event → List Event → Bool
is_pending e later = is_invocation e && not (list_any (matches e) later)

-- complete(H): H without its pending invocations
abbrev pub complete : List Event → List Event
complete [] = []
complete (e ∷ later) = if is_pending e later then complete later else e ∷ complete later

-- A history is sequential if it is empty, or begins with an invocation, each invocation except
-- perhaps the last is at once followed by a matching response, and each response is at once after
-- an invocation that it matches.
abbrev pub IsSequential : List Event → Type 0
IsSequential [] = ⊤
IsSequential (e ∷ []) = IsTrue (is_invocation e)
IsSequential (e ∷ f ∷ rest) = IsTrue (matches e f) × IsSequential rest

-- A history is well-formed if each process alone is sequential.
abbrev pub IsWellFormed : List Event → Type 0
IsWellFormed h = (p : ℕ) → IsSequential (by_process p h)

-- A completion of H: H goes on with responses into a well-formed history, so that each of them
-- matches a pending invocation of its own; and then the invocations that are still pending are left
-- out. A history that is not well-formed has no completion: Herlihy and Wing speak of well-formed
-- ones only.
pub record IsCompletion (h c : List Event) : Type 0 where
  pub added : List Event
  pub responses : All (λ e. is_invocation e ≡ false) added
  pub well_formed : IsWellFormed (h ++ added)
  pub completed : c ≡ complete (h ++ added)

-- Two histories are equivalent if each process sees the same in both.
abbrev pub IsEquivalent : List Event → List Event → Type 0
IsEquivalent c s = (p : ℕ) → by_process p c ≡ by_process p s

-- An operation of a well-formed history: the invocation of a process that has this many of its
-- invocations before it, with its response, if there is one. The k-th response of a process answers
-- its k-th invocation. What is pending is the last of its process, so a completion renames no
-- operation.
pub record Operation : Type 0 where
  pub process : ℕ
  pub turn : ℕ

-- whether an event is an invocation of process p
abbrev pub invokes : ℕ → Event → Bool
invokes p e = is_invocation e && (process_of e == p)

-- whether an event is a response to process p
abbrev pub responds : ℕ → Event → Bool
responds p e = not (is_invocation e) && (process_of e == p)

-- the operation is one of H's
abbrev pub IsOperation : List Event → Operation → Type 0
IsOperation h e = e.turn < length (filter (invokes e.process) h)

-- the event passes the test, and n events before it do
abbrev pub IsTurn : (Event → Bool) → ℕ → List Event → Event → Type 0
IsTurn test turn before event = IsTrue (test event) × (length (filter test before) ≡ turn)

-- One operation of a well-formed history precedes another if the response of the first is
-- before the invocation of the second. Herlihy and Wing, read literally, order operations that have
-- both events; here, by this project's choice, the second may also be pending in H.
pub record Precedes (h : List Event) (e f : Operation) : Type 0 where
  pub before : List Event
  pub response : Event
  pub between : List Event
  pub invocation : Event
  pub after : List Event
  pub whole : h ≡ before ++ response ∷ between ++ invocation ∷ after
  pub is_first_response : IsTurn (responds e.process) e.turn before response
  pub is_second_invocation : IsTurn (invokes f.process) f.turn (before ++ response ∷ between)
      invocation
