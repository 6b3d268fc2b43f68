-- A request in a client's hand is in no other hand (`same_hand`), so it can be put back once (`put_back_not`). By the
-- invariant of the world.
use Rattle.std.proofs.Common.{◌≡◌, ℕ, [], Some, None, IsSome, get_or, ap, sym, ◌∙◌, subst}
use Rattle.std.proofs.lemmas.Option.{same_Some}
use Rattle.model.specs.declared.AnyReply.{AnyReply}
use Rattle.model.specs.Objects.{Content, empty, next}
use Rattle.desk_model.specs.World.{AnyRequest, picked, kind_at}
use Rattle.desk_model.specs.Transitions.{put_back}
use Rattle.desk_model.proofs.SameKind.{replays_once}
use Rattle.machine.specs.Machines.{State, world_of}
use Rattle.machine.specs.Runs.{IsImpossible}
use Rattle.machine.specs.Steps.{CanDo, IsInHand}

-- what the fields give as a client's hand is what it has in hand
pub record IsThat (x r x' r' : ℕ) (q q' : AnyRequest) : Type 0 where
  pub object : x' ≡ x
  pub row : r' ≡ r
  pub request : q' ≡ q

same_picked : (q q' : AnyRequest) → picked q ≡ picked q' → q' ≡ q
same_picked q q' e = cc

-- what a client holds, has in hand and has picked up is the one request that it has in hand
pub same_hand : (state : State) (client object row : ℕ) (request : AnyRequest)
    → IsInHand state client object row request → (x r : ℕ) (q : AnyRequest) → (world_of state).holder x ≡ Some client
    → (world_of state).hand x ≡ Some r → (world_of state).stage r ≡ picked q → IsThat object row x r request q
same_hand state client object row request h x r q held hand stage =
    let o : x ≡ object = h.only x held in
    let w : r ≡ row = same_Some r row (sym hand ∙ ap (world_of state).hand o ∙ h.hand) in
    record {
      object = o;
      row = w;
      request = same_picked request q (sym h.stage ∙ ap (world_of state).stage (sym w) ∙ stage);
    }

-- a request whose operation the object can do cannot be put back
pub put_back_not : (state : State) (client object row : ℕ) (request : AnyRequest)
    → IsInHand state client object row request → CanDo state object request.op
    → IsImpossible state.kinds state.quota (world_of state) (client, put_back)
put_back_not state client object row request mine can after moves =
    let t = moves.3 in
    let i = t.in_hand in
    let same = same_hand state client object row request mine t.object t.row t.request i.0 i.1 i.2 in
    let replays = rw same.object at i.3 in
    let once : can.0 ≡ t.content =
    replays_once (empty (kind_at state.kinds object)) can.0 t.content (get_or state.logs object []) can.1 replays in
    let there : IsSome (next t.content t.request.op) = rw (← once, same.request) can.2 in
    let none : next t.content t.request.op ≡ None = t.impossible in
    let no : IsSome {T = Content × AnyReply} None = subst IsSome none there in
    absurd (cc)
