-- What a pass over the rows does.
use Rattle.std.specs.Prelude.{◌≡◌, ◌⊎◌, ℕ, true, List, ⊤}
use Rattle.desk_model.specs.World.{AnyEntry, AnyRequest, kind_at, StartsWith}
use Rattle.desk_invariant.specs.declared.board.Own.TheVariants as own
use Rattle.desk_invariant.specs.declared.board.DeskView.{DeskView}
use Rattle.desk_invariant.specs.Views.{seen_of, after_win, after_release}
use Rattle.publication_list.specs.Calls.{WalkerSeen}
use Rattle.publication.specs.Handles.{Holding}
use Rattle.publication.specs.Calls.{CanDoAfter}
use Rattle.combiner.specs.declared.passes.Combined.{Combined}
use Rattle.combiner.specs.declared.passes.Combined.TheVariants as combined
use Rattle.combiner.specs.declared.passes.Tried.{Tried}
use Rattle.combiner.specs.declared.passes.Tried.TheVariants as tried

-- the client's number and its own calls are the same, and what it has seen of each log begins with
-- what it had seen
pub record KeepsCalls (v w : DeskView) : Type 0 where
  pub number : w.number ≡ v.number
  pub kinds : w.kinds ≡ v.kinds
  pub own : w.own ≡ v.own
  pub done : w.done ≡ v.done
  pub seen : (x : ℕ) → StartsWith (seen_of w x) (seen_of v x)

-- A call of the client on the object x that is outstanding is known to be answered; or the object
-- cannot do it after this log.
abbrev pub IsSettledBy : ℕ → List AnyEntry → DeskView → Type 0
IsSettledBy x log v =
    (q : AnyRequest) → v.own ≡ own.Waiting q → q.object ≡ x
    → (v.ready ≡ true) ⊎ (CanDoAfter (kind_at v.kinds x) log q.op → ⊥)

-- A call of the client on the object x that is outstanding is known to be answered; or the object
-- cannot do it after the log that the client has seen.
abbrev pub IsSettled : ℕ → DeskView → Type 0
IsSettled x v = IsSettledBy x (seen_of v x) v

-- A call of the client on the object that is held is known to be answered, if it is outstanding; or
-- the object cannot do it after its log.
abbrev pub IsSettledNow : Holding → Type 0
IsSettledNow p = IsSettledBy p.object p.log p.knows

-- nothing of what the holder has is changed, except its list and the ages of the rows
abbrev pub IsSameBut : Holding → Holding → Type 0
IsSameBut p q =
    (l : WalkerSeen) × (ages : List ℕ)
    × (q ≡ record p { state = record p.state { list = l; ages = ages } })

-- from p to q rows were tried
pub record Goes (p q : Holding) : Type 0 where
  pub desk : q.desk ≡ p.desk
  pub object : q.object ≡ p.object
  pub places : q.state.places ≡ p.state.places
  pub log : StartsWith q.log p.log
  pub seen : q.knows.seen ≡ p.knows.seen
  pub calls : KeepsCalls p.knows q.knows
  pub ready : p.knows.ready ≡ true → q.knows.ready ≡ true

-- The client's own row was tried: its request for the object, if there is one, is known to be
-- answered, or it was put back, since the object cannot do it now.
abbrev pub IsTried : Holding → Tried → Type 0
IsTried p tried.PutBack =
    (q : AnyRequest) → p.knows.own ≡ own.Waiting q
    → CanDoAfter (kind_at p.knows.kinds p.object) p.log q.op → ⊥
IsTried p t =
    (q : AnyRequest) → p.knows.own ≡ own.Waiting q → q.object ≡ p.object → p.knows.ready ≡ true

-- The client won the object x and released it with this log, which it has seen, and nothing else of
-- it has changed.
abbrev pub HasLearnt : ℕ → DeskView → DeskView → Type 0
HasLearnt x v w = w ≡ after_release x (seen_of w x) (after_win x (seen_of w x) v)

-- if a try to combine won the object and made a pass, this holds
abbrev pub IfServed : Combined → Type 0 → Type 0
IfServed (combined.Served pass count) P = P
IfServed c P = ⊤

-- if a try to combine found the object held, this holds
abbrev pub IfBusy : Combined → Type 0 → Type 0
IfBusy combined.Busy P = P
IfBusy c P = ⊤

-- if an allocation for the log failed in a try to combine, this holds
abbrev pub IfNoMemory : Combined → Type 0 → Type 0
IfNoMemory combined.NoMemory P = P
IfNoMemory c P = ⊤
