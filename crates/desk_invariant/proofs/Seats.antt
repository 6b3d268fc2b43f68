-- A step of one client leaves true what the others know: each fact of a view is of what the step does not write
-- (`Later`), so the view stays true (`seats_after`).
use Rattle.std.proofs.Common.{inr, inl, ◌≡◌, ◌≢◌, ℕ, ◌+◌, ◌<◌, ◌≤◌, Bool, true, false, List, [], length, get_or, set}
use Rattle.std.proofs.Common.{Option, None, Some, All, refl, sym, ap, subst, ◌∙◌, arith}
use mathlib.Core.Option as maybe
use mathlib.Core.Option.{some}
use lib.ListN.{get_elem?}
use lib.Seq.{set-get_or}
use Rattle.std.proofs.lemmas.List.Elements.{All-weaker}
use Rattle.atomic_table.specs.Table.{State, Me, Act, Valid, keeps, stepped, carried_after}
use Rattle.atomic_table.specs.Seated.{TableId}
use Rattle.atomic_table.proofs.Lists.{at_set}
use Rattle.model.specs.declared.Kind.{Kind}
use Rattle.model.specs.declared.AnyOp.{AnyOp}
use Rattle.model.specs.declared.AnyReply.{AnyReply}
use Rattle.model.specs.Objects.{Content}
use Rattle.desk_invariant.specs.declared.board.Slot.{Slot}
use Rattle.desk_invariant.specs.declared.board.Own.{Own}
use Rattle.desk_invariant.specs.declared.board.Own.TheVariants as own
use Rattle.desk_invariant.specs.declared.board.Held.{Held}
use Rattle.desk_invariant.specs.declared.board.Held.TheVariants as held
use Rattle.desk_invariant.specs.declared.board.Leaving.{Leaving}
use Rattle.desk_invariant.specs.declared.board.PutBack.{PutBack}
use Rattle.desk_invariant.specs.declared.board.Role.TheVariants as role
use Rattle.desk_invariant.specs.declared.board.DeskView.{DeskView}
use Rattle.desk_model.specs.World.{AnyEntry, AnyRequest, AnyAnswer, AnyDone, Stage, absent, posted, picked, answered}
use Rattle.desk_model.specs.World.{World, request_of, journal_of, journal_in, StartsWith}
use Rattle.desk_model.specs.Transitions.{changed}
use Rattle.desk_model.specs.Sound.{Sound}
use Rattle.desk_model.proofs.Changed.{changed_else, changed_all}
use Rattle.desk_model.proofs.Entries.{starts_longer, starts_same}
use Rattle.desk_invariant.specs.Views.{seen_of, received_of, after_miss}
use Rattle.desk_invariant.specs.Rule.{OwnCallAgrees, HoldsOnly, HeldAgrees, SeatAgrees, HasLeft, ViewAgrees}
use Rattle.desk_invariant.specs.Rule.{HasOneMaker, Tied, Kept}
use Rattle.desk_model.specs.Limits.{max_clients}

-- ---- what a step leaves to the other clients

-- the stage is not that of a call whose request is in its row
abbrev pub NotPosted : Stage → Type 0
NotPosted stage = (q : AnyRequest) → stage ≢ posted q

-- the stage is not that of a call that is answered
abbrev pub NotAnswered : Stage → Type 0
NotAnswered stage = (q : AnyRequest) (a : AnyAnswer) → stage ≢ answered q a

-- the stage is that of a call that is answered
abbrev pub IsAnswered : Stage → Type 0
IsAnswered stage = (q : AnyRequest) × (a : AnyAnswer) × (stage ≡ answered q a)

-- what the client needs of another's step from world to world', so that what it knows stays true
pub record Later (world world' : World) (client : ℕ) : Type 0 where
  pub own : (o : Own) → OwnCallAgrees o (world.stage client) → OwnCallAgrees o (world'.stage client)
  pub ready : (q : AnyRequest) (a : AnyAnswer) → world.stage client ≡ answered q a → world'.stage client ≡ answered q a
  pub done : world'.done client ≡ world.done client
  pub logs : (x : ℕ) → StartsWith (world'.log x) (world.log x)
  pub held : (x : ℕ) → world.holder x ≡ Some client
      → (world'.holder x ≡ world.holder x) × (world'.hand x ≡ world.hand x) × (world'.log x ≡ world.log x)
  pub holds : (x : ℕ) → world'.holder x ≡ Some client → world.holder x ≡ Some client
  pub picked : (x r : ℕ) (q : AnyRequest) → world.holder x ≡ Some client → world.hand x ≡ Some r
      → world.stage r ≡ picked q → world'.stage r ≡ picked q
  pub posted : (r : ℕ) (q : AnyRequest) → world.holder q.object ≡ Some client → world.stage r ≡ posted q
      → world'.stage r ≡ posted q
  pub ended : world'.ended client ≡ world.ended client

-- the request that was put back is in its row, and the client holds its object
abbrev pub InRow : (ℕ → Stage) → (ℕ → Option ℕ) → ℕ → PutBack → Type 0
InRow stage holder client b = (stage b.row ≡ posted b.request) × (holder b.request.object ≡ Some client)

-- requests that were put back are in their rows still after a row that was not posted has gone to the stage
pub rows_stay : (world : World) (client row : ℕ) (stage : Stage) (back : List PutBack) → NotPosted (world.stage row)
    → All (InRow world.stage world.holder client) back
    → All (InRow (changed world.stage row stage) world.holder client) back
rows_stay world client row stage back unposted =
    All-weaker (InRow world.stage world.holder client) (InRow (changed world.stage row stage) world.holder client)
    (λ b at. (
      changed_else world.stage row stage b.row (λ same. unposted b.request (ap world.stage (sym same) ∙ at.0))
          ∙ at.0,
      at.1,
    )) back

-- Clients that have ended in world have ended in world', with the same journals.
abbrev pub KeepsEnded : World → World → Type 0
KeepsEnded world world' = (d : ℕ) → world.ended d ≡ true
    → (world'.ended d ≡ true) × (journal_in world' d ≡ journal_in world d)

-- what was told of clients that have ended stays true
left_stays : (world world' : World) (leavings : List Leaving) → KeepsEnded world world' → All (HasLeft world) leavings
    → All (HasLeft world') leavings
left_stays world world' leavings leave =
    All-weaker (HasLeft world) (HasLeft world')
    (λ l has. let (stays, journal) = leave l.client has.0 in (stays, journal ∙ has.1)) leavings

-- a row that goes on with its call leaves the journals of all clients as they are
pub row_leaves : (world : World) (row : ℕ) (stage : Stage) → request_of (world.stage row) ≡ request_of stage
    → (client : ℕ) → world.ended client ≡ true
    → (world.ended client ≡ true)
    × (journal_of (world.done client) (request_of (changed world.stage row stage client)) ≡ journal_in world client)
row_leaves world row stage same client over =
    let asked = changed_all (λ c u. request_of u ≡ request_of (world.stage c)) world.stage row stage (sym same)
    (λ c _. refl) client in
    (over, ap (journal_of (world.done client)) asked)

same_later : (world : World) (client : ℕ) → Later world world client
same_later world client =
    let logs : (x : ℕ) → StartsWith (world.log x) (world.log x) = λ x. starts_same (world.log x) in
    assumption

-- what a client holds stays so at the step of another
held_stays : (count : ℕ) (world world' : World) (client : ℕ) → Later world world' client → (holding : Held)
    → HeldAgrees count world client holding → HeldAgrees count world' client holding
held_stays count world world' client later holding holds = grind (arith, later.holds, later.held, later.picked)

-- the view of a client stays true at the step of another
seat_stays : (kinds : List Kind) (world world' : World) (client : ℕ) (view : DeskView) → KeepsEnded world world'
    → Later world world' client → SeatAgrees kinds world client view → SeatAgrees kinds world' client view
seat_stays kinds world world' client view leave later ok =
    let ready : view.ready ≡ true → IsAnswered (world'.stage client) =
    λ is. let (q, a, at) = ok.ready is in (q, a, later.ready q a at) in
    let retired = All-weaker (λ d. world.ended d ≡ true) (λ d. world'.ended d ≡ true) (λ d over. (leave d over).0)
    view.retired ok.retired in
    let back = All-weaker (InRow world.stage world.holder client) (InRow world'.stage world'.holder client)
    (λ b at. (later.posted b.row b.request at.1 at.0, (later.held b.request.object at.1).0 ∙ at.1)) view.back ok.back in
    assumption (
      ready,
      ok.done ∙ sym later.done,
      later.own view.own ok.own,
      held_stays (length kinds) world world' client later view.held ok.held,
      later.ended ∙ ok.ended,
      λ (x : ℕ). starts_longer (world'.log x) (world.log x) (seen_of view x) (later.logs x) (ok.seen x),
    )

-- ---- what a client's own step may change in its view

-- what no step of a client's own changes in its view
pub record Alike (view view' : DeskView) : Type 0 where
  pub role : view'.role ≡ view.role
  pub number : view'.number ≡ view.number
  pub made : view'.made ≡ view.made
  pub received : view'.received ≡ view.received
  pub left : view'.left ≡ view.left
  pub lists : view'.lists ≡ view.lists

-- a view in which none of these changed
pub alike : {view : DeskView} {kinds : List Kind} {done : List AnyDone} {own : Own} {ready : Bool}
    {seen : List (List AnyEntry)} {back : List PutBack} {missed : List ℕ} {won : ℕ} {held : Held} {ended : Bool}
    {retired still_there : List ℕ}
    → Alike view (record view {
      kinds = kinds;
      done = done;
      own = own;
      ready = ready;
      seen = seen;
      back = back;
      missed = missed;
      won = won;
      held = held;
      ended = ended;
      retired = retired;
      still_there = still_there;
    })
alike = assumption

-- A client that was told more, missed more, and knows more of its row and of the ends of others. What it was told, has
-- missed and has found there does not matter.
pub seat_knowing : {kinds : List Kind} {world : World} {client : ℕ} {view : DeskView} {ready : Bool}
    {received : List (List AnyEntry)} {missed : List ℕ} {left : List Leaving} {retired still_there : List ℕ}
    → (ready ≡ true → IsAnswered (world.stage client))
    → All (λ d. world.ended d ≡ true) retired → SeatAgrees kinds world client view
    → SeatAgrees kinds world client (record view {
      ready = ready;
      received = received;
      missed = missed;
      left = left;
      retired = retired;
      still_there = still_there;
    })
seat_knowing ready retired ok = assumption

-- ---- what a client holds

-- a client that holds the object with this log, and has a free hand: what `HeldAgrees` says, by name
pub record IsPass (kinds : List Kind) (world : World) (client object : ℕ) (log : List AnyEntry) : Type 0 where
  pub inside : object < length kinds
  pub holds : world.holder object ≡ Some client
  pub free : world.hand object ≡ None
  pub logged : world.log object ≡ log
  pub only : HoldsOnly world client object

-- what the view of such a client tells
pub pass_of : {kinds : List Kind} {world : World} {client object : ℕ} {log : List AnyEntry} {view : DeskView}
    → SeatAgrees kinds world client view → view.held ≡ held.Pass object log → IsPass kinds world client object log
pass_of {kinds = kinds} {world = world} {client = client} ok holding =
    let (inside, holds, free, logged, only) = subst (HeldAgrees (length kinds) world client) holding ok.held in
    assumption

-- a client that has the request of this row in its hand, by the same names
pub record IsHand (kinds : List Kind) (world : World) (client object : ℕ) (log : List AnyEntry) (row : ℕ)
    (request : AnyRequest) : Type 0 where
  pub inside : object < length kinds
  pub holds : world.holder object ≡ Some client
  pub in_hand : world.hand object ≡ Some row
  pub logged : world.log object ≡ log
  pub only : HoldsOnly world client object
  pub few : row < max_clients
  pub picked_up : world.stage row ≡ picked request

-- what the view of such a client tells
pub hand_of : {kinds : List Kind} {world : World} {client object : ℕ} {log : List AnyEntry} {row : ℕ}
    {request : AnyRequest} {view : DeskView} → SeatAgrees kinds world client view
    → view.held ≡ held.Hand object log row request → IsHand kinds world client object log row request
hand_of {kinds = kinds} {world = world} {client = client} ok holding =
    let (inside, holds, in_hand, logged, only, few, picked_up) =
    subst (HeldAgrees (length kinds) world client) holding ok.held in
    assumption

-- ---- all views, after a step of one client

-- the client is not made yet
abbrev IsUnmade : World → ℕ → Type 0
IsUnmade world client = (world.stage client ≡ absent) × (world.done client ≡ []) × (world.ended client ≡ false)
    × ((x : ℕ) → world.holder x ≢ Some client)

unmade_stays : (world world' : World) (client : ℕ) → Later world world' client → IsUnmade world client
    → IsUnmade world' client
unmade_stays world world' client later unmade =
    let (away, none_done, going, nothing) = unmade in
    (later.own own.Absent away, later.done ∙ none_done, later.ended ∙ going, λ x h. nothing x (later.holds x h))

-- one client has made a step to world', and its view becomes view'
module _ (kinds : List Kind) (lists : List TableId) (clients : ℕ) (world world' : World) (seat_of : ℕ → ℕ)
    (views : List DeskView) (id : ℕ) (view view' : DeskView) (at : get_elem? views id ≡ some view)
    (is_client : view.role ≡ role.Client) (alike : Alike view view') (makers : HasOneMaker clients views)
    (before : (j : ℕ) (u : DeskView) → get_elem? views j ≡ some u → ViewAgrees kinds lists world seat_of j u)
    (leave : KeepsEnded world world') (others : (c : ℕ) → c ≢ view.number → Later world world' c) where
  -- Each log begins with what it was.
  logs_begin : (x : ℕ) → StartsWith (world'.log x) (world.log x)
  logs_begin =
      let next : 1 + view.number ≢ view.number = λ h. omega arith in (others (1 + view.number) next).logs

  -- A client that is not made yet is not the one of the step.
  is_made : (c : ℕ) (z : DeskView) (i : ℕ) → get_elem? views i ≡ some z → z.role ≡ role.Maker → z.made ≤ c
      → c ≢ view.number
  is_made c z i g is l same = let low = (makers.made i z g is id view at).0 is_client in omega arith

  -- The view of the client of the step is true.
  own_view_after : SeatAgrees kinds world' view.number view' → ViewAgrees kinds lists world' seat_of id view'
  own_view_after ok =
      let old = before id view at in
      record {
        seen = ok.seen;
        received = λ x. subst (λ z. StartsWith (world'.log x) (get_or z x [])) (sym alike.received)
            (starts_longer (world'.log x) (world.log x) (received_of view x) (logs_begin x) (old.received x));
        left = subst (All (HasLeft world')) (sym alike.left) (left_stays world world' view.left leave old.left);
        client = λ _. (
          ap seat_of alike.number ∙ (old.client is_client).0,
          subst (λ z. SeatAgrees kinds world' z view') (sym alike.number) ok,
        );
        unmade = λ is c l.
            let is' : view.role ≡ role.Maker = sym alike.role ∙ is in
            let l' : view.made ≤ c = subst (λ z. z ≤ c) alike.made l in
            unmade_stays world world' c (others c (is_made c view id at is' l')) (old.unmade is' c l');
        maker_kinds = λ is. ok.kinds_are;
        lists_are = λ is. alike.lists ∙ old.lists_are is_client;
        maker_lists = λ is. alike.lists ∙ old.lists_are is_client;
      }

  -- Any other view is true still.
  other_view_after : (j : ℕ) (u : DeskView) → j ≢ id → get_elem? views j ≡ some u
      → ViewAgrees kinds lists world' seat_of j u
  other_view_after j u away e =
      let b = before j u e in
      let here = (before id view at).client is_client in
      record {
        seen = λ x. starts_longer (world'.log x) (world.log x) (seen_of u x) (logs_begin x) (b.seen x);
        received = λ x. starts_longer (world'.log x) (world.log x) (received_of u x) (logs_begin x) (b.received x);
        left = left_stays world world' u.left leave b.left;
        client = λ is.
            let (sits, seat) = b.client is in
            let other : u.number ≢ view.number = λ g. away (sym sits ∙ (ap seat_of g ∙ here.0)) in
            (sits, seat_stays kinds world world' u.number u leave (others u.number other) seat);
        unmade = λ is c l. unmade_stays world world' c (others c (is_made c u j e is l)) (b.unmade is c l);
        maker_kinds = b.maker_kinds;
        lists_are = b.lists_are;
        maker_lists = b.maker_lists;
      }

  -- Each view is true after the step.
  seats_after : SeatAgrees kinds world' view.number view'
      → (j : ℕ) (u : DeskView) → get_elem? (set views id view') j ≡ some u → ViewAgrees kinds lists world' seat_of j u
  seats_after ok j u e = elim (at_set views id j view' u e) [
    | inl t ↦ subst (λ (z : ℕ × DeskView). ViewAgrees kinds lists world' seat_of z.0 z.1)
        (λ i. (sym t.0 i, t.1 i)) (own_view_after ok)
    | inr t ↦ other_view_after j u t.0 t.1
  ]

-- at this place was a view with the same role, number and count of clients made
record IsLike (views : List DeskView) (j : ℕ) (view : DeskView) : Type 0 where
  old : DeskView
  at : get_elem? views j ≡ some old
  role : view.role ≡ old.role
  number : view.number ≡ old.number
  made : view.made ≡ old.made

-- `HasOneMaker` stays true if one view changes, and not in its role, its number or how many clients it has made
pub makers_stay : (clients : ℕ) (views : List DeskView) (id : ℕ) (view view' : DeskView)
    → get_elem? views id ≡ some view → view'.role ≡ view.role → view'.number ≡ view.number
    → view'.made ≡ view.made → HasOneMaker clients views → HasOneMaker clients (set views id view')
makers_stay clients views id view view' at role number made before =
    let old : (j : ℕ) (u : DeskView) → get_elem? (set views id view') j ≡ some u → IsLike views j u =
    λ j u e. elim (at_set views id j view' u e) [
      | inl h ↦ record {
        old = view;
        at = ap (get_elem? views) h.0 ∙ at;
        role = ap (λ z. z.role) (sym h.1) ∙ role;
        number = ap (λ z. z.number) (sym h.1) ∙ number;
        made = ap (λ z. z.made) (sym h.1) ∙ made;
      }
      | inr h ↦ record { old = u; at = h.1; role = refl; number = refl; made = refl }
    ] in
    record {
      made = λ j u e is i t f.
          let maker = old j u e in
          let a = old i t f in
          let low = before.made j maker.old maker.at (sym maker.role ∙ is) i a.old a.at in
          let same_number = a.number in
          let same_made = maker.made in
          ((λ tc. let l = low.0 (sym a.role ∙ tc) in omega arith), λ tm. low.1 (sym a.role ∙ tm));
      numbers = λ j u e is.
          let a = old j u e in
          let low = before.numbers j a.old a.at (sym a.role ∙ is) in
          let same_number = a.number in
          omega arith;
    }

-- who has come is one of the clients still, after one of them goes to another stage
pub come_after : (clients : ℕ) (world : World) (client : ℕ) (stage : Stage) → client < clients
    → ((d : ℕ) → world.stage d ≢ absent → d < clients)
    → (d : ℕ) → changed world.stage client stage d ≢ absent → d < clients
come_after clients world client stage low all =
    changed_all (λ d u. u ≢ absent → d < clients) world.stage client stage (λ _. low) (λ d _. all d)

makers_after : (clients : ℕ) (views : List DeskView) (id : ℕ) (view view' : DeskView) → get_elem? views id ≡ some view
    → Alike view view' → HasOneMaker clients views → HasOneMaker clients (set views id view')
makers_after clients views id view view' at alike =
    makers_stay clients views id view view' at alike.role alike.number alike.made

-- ---- the rule, after a step of one client

module _ {S O R : Type 0} (content : S → Content) (op_in : O → AnyOp) (reply_in : R → AnyReply) (kinds : List Kind)
    (clients quota : ℕ) where
  abbrev pub St : Type 0
  St = State (Slot S O R) DeskView

  -- the rule of a desk's table, for these kinds, clients and quota
  abbrev pub Rule : St → Type 0
  Rule = Kept content op_in reply_in kinds clients quota

  -- what `Allows` asks of the rule in one state
  abbrev pub AllowsIn : St → ℕ → Me (Slot S O R) DeskView → ℕ → (ℕ → ℕ) → (ℕ → Me (Slot S O R) DeskView → Type 0)
      → Type 0
  AllowsIn state id me word f told =
      (view' : DeskView) × (act : Act (Slot S O R)) × Valid state.homes me.1 act
      × Rule (stepped state word (f (get_or state.words word 0)) id me.1 view' act)
      × told (get_or state.words word 0) (view', carried_after me.1 act)

module _ {S O R : Type 0} {content : S → Content} {op_in : O → AnyOp} {reply_in : R → AnyReply} {kinds : List Kind}
    {clients quota : ℕ} where
  -- what the view of a client says of the client itself is true
  pub mine : {state : State (Slot S O R) DeskView} {view : DeskView}
      (rule : Rule content op_in reply_in kinds clients quota state) (id : ℕ) → view.role ≡ role.Client
      → get_elem? state.views id ≡ some view → SeatAgrees kinds rule.world view.number view
  mine rule id is_client at = ((rule.seats id _ at).client is_client).1

  -- the world after a step of the client whose view becomes view', with what the rule asks of it
  pub record After {state : State (Slot S O R) DeskView} (rule : Rule content op_in reply_in kinds clients quota state)
      (view view' : DeskView) (words : List ℕ) (homes : List (maybe.Option (Slot S O R))) : Type 0 where
    pub world : World
    pub holders : (x d : ℕ) → world.holder x ≡ Some d → (d < clients) × (world.ended d ≡ false)
    pub come : (d : ℕ) → world.stage d ≢ absent → d < clients
    pub sound : Sound kinds quota world
    pub tied : Tied content op_in reply_in kinds rule.lists world words homes
    pub leave : KeepsEnded rule.world world
    pub others : (another : ℕ) → another ≢ view.number → Later rule.world world another
    pub own : SeatAgrees kinds world view.number view'

  -- the rule holds after a step for which there is such a world
  pub kept_after : {state : State (Slot S O R) DeskView} {view : DeskView} {words : List ℕ}
      {homes : List (maybe.Option (Slot S O R))} (rule : Rule content op_in reply_in kinds clients quota state) (id : ℕ)
      (view' : DeskView) → get_elem? state.views id ≡ some view → view.role ≡ role.Client → Alike view view'
      → After rule view view' words homes
      → Rule content op_in reply_in kinds clients quota record
      { words = words; homes = homes; views = set state.views id view' }
  kept_after {state = state} {view = view} rule id view' at is_client alike after = record {
    world = after.world;
    seat_of = rule.seat_of;
    lists = rule.lists;
    few_calls = rule.few_calls;
    few_clients = rule.few_clients;
    sound = after.sound;
    tied = after.tied;
    seats = seats_after kinds rule.lists clients rule.world after.world rule.seat_of state.views id view view' at
        is_client alike rule.makers rule.seats after.leave after.others after.own;
    makers = makers_after clients state.views id view view' at alike rule.makers;
    holders = after.holders;
    come = after.come;
  }

  -- ---- misses, looks, and other steps that leave the words

  -- a step that changes no word
  pub unmoved : {state : State (Slot S O R) DeskView} {view : DeskView}
      (rule : Rule content op_in reply_in kinds clients quota state) (word id : ℕ) (view' : DeskView)
      (slots : List (ℕ × Slot S O R)) → get_elem? state.views id ≡ some view → view.role ≡ role.Client
      → Alike view view' → SeatAgrees kinds rule.world view.number view'
      → Rule content op_in reply_in kinds clients quota
      (stepped state word (get_or state.words word 0) id slots view' keeps)
  unmoved {state = state} {view = view} rule word id view' slots at is_client alike ok =
      rw (set-get_or state.words word 0) (kept_after rule id view' at is_client alike record {
        world = rule.world;
        holders = rule.holders;
        come = rule.come;
        sound = rule.sound;
        tied = rule.tied;
        leave = λ d e. (e, refl);
        others = λ client _. same_later rule.world client;
        own = ok;
      })

  -- the rule holds after a miss of a client
  pub misses : {state : State (Slot S O R) DeskView} {view : DeskView}
      (rule : Rule content op_in reply_in kinds clients quota state) (word id : ℕ) (slots : List (ℕ × Slot S O R))
      → view.role ≡ role.Client → get_elem? state.views id ≡ some view
      → Rule content op_in reply_in kinds clients quota
      (stepped state word (get_or state.words word 0) id slots (after_miss word view) keeps)
  misses {view = view} rule word id slots is_client at =
      let ok = mine rule id is_client at in
      unmoved rule word id (after_miss word view) slots at is_client alike (seat_knowing ok.ready ok.retired ok)

  -- a look that tells nothing
  pub looks : {state : State (Slot S O R) DeskView} {view : DeskView}
      (rule : Rule content op_in reply_in kinds clients quota state) (word id : ℕ) (slots : List (ℕ × Slot S O R))
      → view.role ≡ role.Client → get_elem? state.views id ≡ some view
      → Rule content op_in reply_in kinds clients quota
      (stepped state word (get_or state.words word 0) id slots view keeps)
  looks {view = view} rule word id slots is_client at =
      unmoved rule word id view slots at is_client alike (mine rule id is_client at)
