-- What a call that waited for its answer did.
use Rattle.std.specs.Prelude.{◌≡◌, ℕ, ◌+◌, ◌<◌, [], ◌∷◌, ◌++◌, length, All}
use Rattle.model.specs.declared.AnyOp.{AnyOp}
use Rattle.desk_model.specs.World.{AnyRequest, AnyAnswer, kind_at, logged, entries_of_client}
use Rattle.desk_model.specs.World.{served, IsLegalLog, StartsWith}
use Rattle.desk_model.specs.declared.JournalEvent.TheVariants.{Invoked, Returned}
use Rattle.desk_invariant.specs.declared.board.Own.TheVariants as own
use Rattle.desk_invariant.specs.declared.board.DeskView.{DeskView}
use Rattle.desk_invariant.specs.Views.{journal, seen_of}
use Rattle.publication.specs.Handles.{DeskSeen, Known}
use Rattle.publication.specs.Calls.{IsPosted, IsPostRefusal}
use Rattle.combiner.specs.Passes.{KeepsCalls}
use Rattle.combiner.specs.declared.waiting.CallFault.{CallFault}
use Rattle.combiner.specs.declared.waiting.CallFault.TheVariants as fault

-- What the client has seen of the request's object after its call is over: a legal log, which holds
-- of its own calls those before and this one, and in which all were invoked before this one
-- returned.
pub record IsLogged (v : DeskView) (request : AnyRequest) (a : AnyAnswer) (returned : ℕ)
    (w : DeskView) : Type 0 where
  pub legal : IsLegalLog (kind_at v.kinds request.object) (seen_of w request.object)
  pub counted : entries_of_client v.number (seen_of w request.object)
      ≡ served request.object v.number v.done ++ logged v.number request a
  pub later : All (λ e. e.ticket < returned) (seen_of w request.object)

-- the outstanding call is over, with this answer
pub record IsWaitOver (v : DeskView) (a : AnyAnswer) (w : DeskView) : Type 0 where
  pub ticket : ℕ
  pub number : w.number ≡ v.number
  pub kinds : w.kinds ≡ v.kinds
  pub idle : w.own ≡ own.Idle
  pub calls : length w.done ≡ length v.done + 1
  pub journal : journal w ≡ journal v ++ Returned ticket a ∷ []
  pub request : AnyRequest
  pub waited : v.own ≡ own.Waiting request
  pub seen : (x : ℕ) → StartsWith (seen_of w x) (seen_of v x)
  pub logged : IsLogged v request a ticket w

-- An idle client made one call, with this answer: its invocation and its return are the last events
-- of the journal, and the client is idle. What it has seen goes on, and has the call.
pub record IsCallOver (v : DeskView) (object : ℕ) (op : AnyOp) (a : AnyAnswer) (w : DeskView) :
    Type 0
  where
    pub invoked : ℕ
    pub returned : ℕ
    pub was_idle : v.own ≡ own.Idle
    pub number : w.number ≡ v.number
    pub kinds : w.kinds ≡ v.kinds
    pub idle : w.own ≡ own.Idle
    pub calls : length w.done ≡ length v.done + 1
    pub journal : journal w ≡ journal v ++ Invoked invoked object op ∷ Returned returned a ∷ []
    pub seen : (x : ℕ) → StartsWith (seen_of w x) (seen_of v x)
    pub logged : IsLogged v (record { object = object; ticket = invoked; op = op }) a returned w

-- the call was posted, and is outstanding still
abbrev pub IsStillOutstanding : DeskView → ℕ → AnyOp → DeskView → Type 0
IsStillOutstanding v object op w = (u : DeskView) × IsPosted v object op u × KeepsCalls u w

-- why the call on the object x was not answered: it was not posted, and the client is as it was; or
-- an allocation failed
abbrev pub IsCallFault : DeskSeen → Known → ℕ → AnyOp → CallFault → Known → Type 0
IsCallFault d c x op (fault.Post e) k = (k ≡ c) × IsPostRefusal d c x op e
IsCallFault d c x op fault.NoMemory k = IsStillOutstanding c.knows x op k.knows
