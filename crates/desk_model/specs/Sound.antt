-- The invariant of the world: what holds of it between any two transitions.
use Rattle.std.specs.Prelude.{◌≡◌, ℕ, zero, suc, ◌+◌, ◌<◌, ◌≤◌, ⊤, List, [], ◌++◌, length, Some}
use Rattle.std.specs.Prelude.{None, All, AllPairs, Contains}
use Rattle.model.specs.declared.Kind.{Kind}
use Rattle.model.specs.Objects.{kind_of}
use Rattle.desk_model.specs.declared.JournalEvent.TheVariants.{Invoked, Returned}
use Rattle.desk_model.specs.World.{AnyEntry, AnyRequest, AnyEvent, AnyDone, absent, picked, World}
use Rattle.desk_model.specs.World.{kind_at, logged, entries_of_client, served, served_now}
use Rattle.desk_model.specs.World.{request_of}
use Rattle.desk_model.specs.World.{calls_made, tickets_drawn, journal_in, tickets_in, IsLegalLog}
use Rattle.desk_model.specs.Limits.{max_clients}

-- the sum of the first n values
abbrev pub total : (ℕ → ℕ) → ℕ → ℕ
total f zero = 0
total f (suc n) = f n + total f n

-- Of several lists of numbers each rises, and together they hold the numbers below n, each once.
pub record ShareOut (n : ℕ) (lists : ℕ → List ℕ) : Type 0 where
  pub rising : (c : ℕ) → AllPairs (λ t u. t < u) (lists c)
  pub below : (c : ℕ) → All (λ t. t < n) (lists c)
  pub apart : (c d t : ℕ) → Contains (lists c) t → Contains (lists d) t → c ≡ d
  pub each : (t : ℕ) → t < n → (c : ℕ) × Contains (lists c) t

-- an invocation is on an object that is there, and of an operation of its kind
abbrev pub IsAmong : List Kind → AnyEvent → Type 0
IsAmong kinds (Invoked t x op) = (x < length kinds) × (kind_of op ≡ kind_at kinds x)
IsAmong kinds (Returned t a) = ⊤

-- what a call that is over has put into the log is after calls that were invoked before it
-- returned
abbrev pub IsInTime : World → ℕ → AnyDone → Type 0
IsInTime w c d =
    (before : List AnyEntry) × (after : List AnyEntry)
    × (w.log d.request.object ≡ before ++ logged c d.request d.answer ++ after)
    × All (λ e. e.ticket < d.returned) before

-- what holds of the journals
pub record SoundJournals (kinds : List Kind) (w : World) : Type 0 where
  -- each ticket below the clock is in one journal, once
  pub tickets : ShareOut w.clock (tickets_in w)
  pub on_objects : (c : ℕ) → All (IsAmong kinds) (journal_in w c)
  pub in_time : (c : ℕ) → All (IsInTime w c) (w.done c)
  -- a client that has not come has done nothing
  pub not_come : (c : ℕ) → w.stage c ≡ absent → w.done c ≡ []

-- What holds of the world of a desk or a machine with objects of these kinds, and this quota of
-- calls for each client.
pub record Sound (kinds : List Kind) (quota : ℕ) (w : World) : Type 0 where
  -- each log is legal
  pub legal : (x : ℕ) → IsLegalLog (kind_at kinds x) (w.log x)
  -- the log of an object holds, of the calls of a client on it, just those that were answered by a
  -- reply, in order
  pub counted : (c x : ℕ)
      → entries_of_client c (w.log x) ≡ served x c (w.done c) ++ served_now x c (w.stage c)
  -- what is in hand is a request for the object, and each request that was picked up is in hand
  pub in_hand : (x r : ℕ) → w.hand x ≡ Some r
      → (q : AnyRequest) × (w.stage r ≡ picked q) × (q.object ≡ x)
  pub picked_up : (r : ℕ) (q : AnyRequest) → w.stage r ≡ picked q → w.hand q.object ≡ Some r
  -- only a holder has something in hand
  pub empty_hand : (x : ℕ) → w.holder x ≡ None → w.hand x ≡ None
  -- a request is for an operation of its object's kind, and its ticket was drawn
  pub fitting : (c : ℕ) (q : AnyRequest) → request_of (w.stage c) ≡ Some q
      → (kind_of q.op ≡ kind_at kinds q.object) × (q.ticket < w.clock)
  -- each ticket in a log was drawn
  pub early : (x : ℕ) → All (λ e. e.ticket < w.clock) (w.log x)
  -- the clock counts the tickets, and no client makes more calls than its quota
  pub drawn : total (λ c. tickets_drawn (w.done c) (request_of (w.stage c)))
      max_clients ≡ w.clock
  pub within : (c : ℕ) → calls_made (w.done c) (request_of (w.stage c)) ≤ quota
  pub journals : SoundJournals kinds w
