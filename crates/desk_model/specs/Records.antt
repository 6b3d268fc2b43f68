-- The record of a world, which is its journals and its logs, as a history with an order for each
-- object; and when it is sound. A client is a process of the history, and a ticket the number of
-- its event.
use Rattle.std.specs.Prelude.{◌≡◌, ℕ, pos, ◌*◌, ◌<◌, ◌≤◌, ◌==◌, ℤ, List, [], ◌∷◌, map, filter, All}
use Rattle.std.specs.Prelude.{AllPairs, Contains}
use Rattle.model.specs.declared.Kind.{Kind}
use Rattle.model.specs.Histories.{Inv, Res, process_of}
use Rattle.model.specs.Orders.{Numbered, IsHistory, IsValidOrder, calls_on}
use Rattle.desk_model.specs.declared.Answer.TheVariants.{Reply, Refused}
use Rattle.desk_model.specs.declared.JournalEvent.TheVariants.{Invoked, Returned}
use Rattle.desk_model.specs.World.{AnyEntry, AnyEvent, kind_at, ticket_of, IsLegalLog}
use Rattle.desk_model.specs.Sound.{ShareOut, IsAmong}

-- The journal of the client c denotes these events: its calls in turn, the last one perhaps
-- pending, and none of those that were refused.
abbrev pub Denotes : ℕ → List AnyEvent → List Numbered → Type 0
Denotes c [] h = h ≡ []
Denotes c (Invoked t x op ∷ []) h = h ≡ record { number = t; event = Inv c x op } ∷ []
Denotes c (Invoked t x op ∷ Returned u (Reply r) ∷ es) h =
    (rest : List Numbered)
    × (h
    ≡ record { number = t; event = Inv c x op } ∷ record { number = u; event = Res c x r } ∷ rest)
    × Denotes c es rest
Denotes c (Invoked t x op ∷ Returned u Refused ∷ es) h = Denotes c es h
Denotes c es h = ⊥

-- the history of the journals: the numbers rise, and each process does what its client's journal
-- denotes
pub record IsHistoryOf (journals : ℕ → List AnyEvent) (h : List Numbered) : Type 0 where
  pub rising : AllPairs (λ a b. a.number < b.number) h
  pub each : (c : ℕ) → Denotes c (journals c) (filter (λ m. process_of m.event == c) h)

-- the order that a log gives
abbrev pub order_of : List AnyEntry → List ℤ
order_of log = map (λ e. pos e.ticket) log

-- The record of objects of these kinds, and of clients with this quota of calls.
pub record IsSoundRecord (kinds : List Kind) (quota : ℕ) (journals : ℕ → List AnyEvent)
    (logs : ℕ → List AnyEntry) : Type 0 where
  -- the tickets in the journals are the numbers below some number, each once
  pub count : ℕ
  pub tickets : ShareOut count (λ c. map ticket_of (journals c))
  -- they are no more than 64 for each call of the quota: two for each call of 32 clients
  pub few : count ≤ 64 * quota
  -- each call, a refused or pending one too, is on an object that is there, and of its kind
  pub on_objects : (c : ℕ) → All (IsAmong kinds) (journals c)
  -- the journals have a history, and it is well-formed
  pub history : List Numbered
  pub denoted : IsHistoryOf journals history
  pub well_formed : IsHistory history
  -- each log is legal: its replies are those that `next` gives
  pub legal : (x : ℕ) → IsLegalLog (kind_at kinds x) (logs x)
  -- each entry of a log is of a call in its client's journal
  pub agree : (x : ℕ) → All (λ e. Contains (journals e.client) (Invoked e.ticket x e.op)) (logs x)
  -- each log is a valid order of the calls on its object
  pub valid : (x : ℕ) → IsValidOrder (kind_at kinds x) (calls_on x history) (order_of (logs x))
