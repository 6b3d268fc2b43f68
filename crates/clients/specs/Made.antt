-- What a record says about the calls that the clients of a desk were to make.
use Rattle.std.specs.Prelude.{◌≡◌, ◌≢◌, ◌⊎◌, ℕ, ◌+◌, ◌<◌, ◌≤◌, List, [], ◌∷◌, ◌++◌, length, All}
use Rattle.std.specs.Prelude.{Contains}
use mathlib.Core.Option.{some}
use lib.ListN.{get_elem?}
use Rattle.model.specs.declared.AnyOp.{AnyOp}
use Rattle.model.specs.declared.AnyReply.{AnyReply}
use Rattle.desk_model.specs.declared.JournalEvent.TheVariants.{Invoked, Returned}
use Rattle.desk_model.specs.World.{AnyEntry, AnyEvent, AnyAnswer, StartsWith}
use Rattle.desk_model.specs.Records.{IsSoundRecord}
use Rattle.desk_invariant.specs.declared.board.Own.TheVariants as own
use Rattle.desk_invariant.specs.declared.board.Leaving.{Leaving}
use Rattle.desk_invariant.specs.declared.board.DeskView.{DeskView}
use Rattle.desk_invariant.specs.Views.{journal, end_notice, seen_of, IsAccount}
use Rattle.combiner.specs.Passes.{KeepsCalls}
use Rattle.publication.specs.Handles.{DeskId, DeskSeen, Known}
use Rattle.publication.specs.Calls.{IsClosedRecord}
use Rattle.recorder.specs.Records.{Recorded, journal_at, log_at}
use Rattle.clients.specs.Workloads.{Work, WorkCall, calls_at, IsCall}
use Rattle.desk_model.specs.Limits.{max_calls}

-- the events are those of the calls, in order: the invocation of each, and its return
abbrev pub AreCallsMade : List WorkCall → List AnyEvent → Type 0
AreCallsMade [] es = es ≡ []
AreCallsMade (c ∷ cs) es =
    (t u : ℕ) × (a : AnyAnswer) × (rest : List AnyEvent)
    × (es ≡ Invoked t c.0 c.1 ∷ Returned u a ∷ rest) × AreCallsMade cs rest

-- These events are of the calls up to one, in order: the calls before it were made; of this one
-- there is the invocation alone, and of the later ones nothing. A client stops in this way if an
-- allocation of the call fails. The record does not say that one failed, since no clause knows what
-- the allocator refused: a client that stopped at any call would meet this too.
pub record IsStopped (cs : List WorkCall) (es : List AnyEvent) : Type 0 where
  pub front : List WorkCall
  pub call : WorkCall
  pub later : List WorkCall
  pub calls : cs ≡ front ++ call ∷ later
  pub events : List AnyEvent
  pub made : AreCallsMade front events
  pub ticket : ℕ
  pub last : es ≡ events ++ Invoked ticket call.0 call.1 ∷ []

-- the events are those of all these calls, or of the calls up to one that did not return
abbrev pub MadeOrStopped : List WorkCall → List AnyEvent → Type 0
MadeOrStopped cs es = AreCallsMade cs es ⊎ IsStopped cs es

-- the client of this desk is idle, and may make these calls, which fit the desk
pub record MayWork (d : DeskSeen) (c : Known) (cs : List WorkCall) : Type 0 where
  pub desk : c.desk ≡ d.id
  pub idle : c.knows.own ≡ own.Idle
  pub room : length c.knows.done + length cs ≤ c.desk.quota
  pub few : length cs < 1 + max_calls
  pub fit : All (IsCall d.id.kinds) cs

-- a client made these calls, in order, or stopped at one, which is outstanding
pub record HasMadeCalls (cs : List WorkCall) (v w : DeskView) : Type 0 where
  pub number : w.number ≡ v.number
  pub kinds : w.kinds ≡ v.kinds
  pub events : List AnyEvent
  pub journal : journal w ≡ journal v ++ events
  pub made : MadeOrStopped cs events

-- the desk was made for this workload
pub record IsDeskFor (d : DeskSeen) (w : Work) : Type 0 where
  pub kinds : d.id.kinds ≡ w.kinds
  pub clients : d.clients ≡ length w.calls
  pub quota : (c : ℕ) → c < length w.calls → length (calls_at w c) ≤ d.id.quota
  pub few_calls : d.id.quota < 1 + max_calls

-- the client c of this desk, which has made no call
pub record HasMadeNoCall (d : DeskId) (c : ℕ) (k : Known) : Type 0 where
  pub desk : k.desk ≡ d
  pub number : k.knows.number ≡ c
  pub idle : k.knows.own ≡ own.Idle
  pub none : k.knows.done ≡ []

-- each of these is the client of this desk with the number of its place, and has made no call
abbrev pub AreNew : DeskId → List Known → Type 0
AreNew d cs = (c : ℕ) (k : Known) → get_elem? cs c ≡ some k → HasMadeNoCall d c k

-- the client is of a desk made for this workload, and has made no call
pub record IsNew (d : DeskSeen) (w : Work) (k : Known) : Type 0 where
  pub desk : IsDeskFor d w
  pub low : k.knows.number < length w.calls
  pub none : HasMadeNoCall d.id k.knows.number k

-- the client c has made its calls, in order, or stopped at one, which is outstanding
pub record HasWorked (d : DeskSeen) (w : Work) (c : ℕ) (k : Known) : Type 0 where
  pub desk : k.desk ≡ d.id
  pub number : k.knows.number ≡ c
  pub made : MadeOrStopped (calls_at w c) (journal k.knows)

-- the client's calls stay, what it has seen goes on, and it still knows whose end it was told of
pub record Keeps (v w : DeskView) : Type 0 where
  pub calls : KeepsCalls v w
  pub left : (l : Leaving) → Contains v.left l → Contains w.left l

-- both clients have seen the same of each of the first n objects
abbrev pub HaveSeenAlike : ℕ → DeskView → DeskView → Type 0
HaveSeenAlike n v w = (x : ℕ) → x < n → seen_of v x ≡ seen_of w x

-- The log of x begins with a list that both clients have seen. Of each one's calls on x it holds
-- just those that were answered by a reply, each once and in order, and perhaps the one that is
-- pending.
pub record HaveMet (x : ℕ) (v w : DeskView) (log : List AnyEntry) : Type 0 where
  pub seen : List AnyEntry
  pub begins : StartsWith log seen
  pub first : IsAccount x v seen
  pub second : IsAccount x w seen

-- The client met c, which had made its calls of the workload, on each object, and was told of its
-- end.
pub record HasMetClient (w : Work) (v : DeskView) (c : ℕ) : Type 0 where
  pub other : DeskView
  pub number : other.number ≡ c
  pub made : MadeOrStopped (calls_at w c) (journal other)
  pub told : Contains v.left (end_notice other)
  pub met : (x : ℕ) → x < length w.kinds → HaveMet x v other (seen_of v x)

-- the client was told that this other has retired
abbrev pub WasTold : DeskView → ℕ → Type 0
WasTold v c = (l : Leaving) × Contains v.left l × (l.client ≡ c)

-- the last client was told that each other client of the desk has retired
abbrev pub HaveTold : DeskSeen → Known → Type 0
HaveTold d last = (c : ℕ) → c < d.clients → c ≢ last.knows.number → WasTold last.knows c

-- client 0 has met each other client below n
abbrev pub HasMetBelow : Work → Known → ℕ → Type 0
HasMetBelow w k n = (c : ℕ) → 0 < c → c < n → HasMetClient w k.knows c

-- client 0 of the desk has made its calls, or stopped, and has met the others
pub record IsDone (d : DeskSeen) (w : Work) (k : Known) : Type 0 where
  pub worked : HasWorked d w 0 k
  pub met : HasMetBelow w k d.clients

-- the client c closed the desk d, with this record
abbrev pub ClosedBy : DeskSeen → Known → Recorded AnyOp AnyReply → Type 0
ClosedBy d c r = IsClosedRecord (λ (op : AnyOp). op) (λ (reply : AnyReply). reply) d c r

-- What is recorded of the client c, which client 0 met at the end. `first` is what client 0 knew.
pub record HasRunWork (w : Work) (r : Recorded AnyOp AnyReply) (first : DeskView) (c : ℕ) :
    Type 0 where
  -- it made its calls, all of them, in order; or those up to one that is pending
  pub made : MadeOrStopped (calls_at w c) (journal_at r c)
  -- what it knew of its calls at the end
  pub knew : DeskView
  pub number : knew.number ≡ c
  pub says : journal_at r c ≡ journal knew
  -- Each log begins with a list that has just those calls of both on its object that were answered
  -- by a reply, each client's once and in order, and perhaps one that is pending.
  pub met : (x : ℕ) → x < length w.kinds → HaveMet x first knew (log_at r x)

-- The record of a closed desk of the workload's objects and clients.
pub record IsRunRecord (w : Work) (r : Recorded AnyOp AnyReply) : Type 0 where
  pub journals : length r.journals ≡ length w.calls
  pub logs : length r.logs ≡ length w.kinds
  -- what client 0 knew of its calls at the end
  pub knew : DeskView
  pub number : knew.number ≡ 0
  pub says : journal_at r 0 ≡ journal knew
  -- Of client 0's calls each log holds just those on its object that were answered by a reply, each
  -- once and in order, and perhaps the one that is pending.
  pub accounts : (x : ℕ) → IsAccount x knew (log_at r x)
  pub each : (c : ℕ) → c < length w.calls → HasRunWork w r knew c
  -- the journals of all clients are a well-formed history, and each log is legal, and a valid order
  -- of the calls on its object
  pub sound : IsSoundRecord w.kinds max_calls (journal_at r) (log_at r)
