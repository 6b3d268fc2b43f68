-- Picking a request up, putting it back and answering it keep the rule. The holder writes the stage of one row: its
-- own client knows only that its call waits (`own_waits`), and every other row and view stays (`later_row`).
use Rattle.std.proofs.Common.{◌≡◌, ◌≢◌, ℕ, ◌+◌, ◌<◌, eqb, Bool, true, ◌&&◌, ◌||◌, List, [], ◌∷◌, ◌++◌, length, get_or}
use Rattle.std.proofs.Common.{filter, set, not, Option, Some, None, All, refl, sym, ap, subst, ◌∙◌, ⊎_elim}
use Rattle.std.proofs.Common.{inl, inr, arith, eq-eqb, ne_eqb}
use mathlib.Core.Logic.{dite}
use mathlib.Core.Option as maybe
use mathlib.Core.Option.{some}
use native.Mathlib.Decide.{ℕ_discrete}
use lib.ListN.{get_elem?}
use prog.Atomic.{either}
use Rattle.std.proofs.lemmas.Bool.{eqb-true, and_parts, or_cases}
use Rattle.std.proofs.lemmas.List.Elements.{All-nil, All-cons, All-head, All-tail, All-push, All-weaker}
use Rattle.std.proofs.lemmas.Option.{same_Some}
use Rattle.atomic_table.specs.Table.{State, Me, Step, step, keeps, takes, gives, rest, Allows}
use Rattle.model.specs.declared.Kind.{Kind}
use Rattle.model.specs.declared.AnyOp.{AnyOp}
use Rattle.model.specs.declared.AnyReply.{AnyReply}
use Rattle.model.specs.Objects.{Content, kind_of}
use Rattle.desk_invariant.specs.declared.board.Slot.{Slot}
use Rattle.desk_invariant.specs.declared.board.Slot.TheVariants as slot
use Rattle.desk_invariant.specs.declared.board.Own.{Own}
use Rattle.desk_invariant.specs.declared.board.Own.TheVariants as own
use Rattle.desk_invariant.specs.declared.board.Held.{Held}
use Rattle.desk_invariant.specs.declared.board.Held.TheVariants as held
use Rattle.desk_invariant.specs.declared.board.PutBack.{PutBack}
use Rattle.desk_invariant.specs.declared.board.Role.TheVariants as role
use Rattle.desk_invariant.specs.declared.board.DeskView.{DeskView}
use Rattle.desk_model.specs.declared.Request.{Request}
use Rattle.desk_model.specs.declared.Answer.{Answer}
use Rattle.desk_model.specs.World.{AnyEntry, AnyRequest, AnyAnswer, Stage, posted, picked}
use Rattle.desk_model.specs.World.{answered, World, kind_at, logged, request_of, IsLegalLog, StartsWith}
use Rattle.desk_model.specs.Transitions.{changed, handed, served_by}
use Rattle.desk_model.specs.Sound.{Sound}
use Rattle.desk_model.specs.Images.{request_in, answer_in}
use Rattle.desk_model.proofs.Changed.{changed_here, changed_else, changed_all}
use Rattle.desk_model.proofs.Entries.{starts_same, starts_longer}
use Rattle.desk_model.proofs.Effects.{sound_picked, sound_put_back, sound_served}
use Rattle.desk_invariant.specs.Views.{row_place, seen_of, waits_on, after_row_miss, after_pick, after_put_back}
use Rattle.desk_invariant.specs.Views.{after_answer, call_slot, first_picked, answered_word}
use Rattle.desk_model.specs.Limits.{max_objects, max_clients}
use Rattle.desk_invariant.specs.Rule.{row_word, OwnCallAgrees, HeldAgrees, SeatAgrees, CallAt}
use Rattle.desk_invariant.specs.Plays as play
use Rattle.desk_invariant.proofs.Seats.{NotPosted, NotAnswered, IsAnswered, InRow, rows_stay, Later, row_leaves}
use Rattle.desk_invariant.proofs.Seats.{alike, IsHand, pass_of, hand_of, After, AllowsIn, kept_after, looks, come_after}
use Rattle.desk_invariant.proofs.Seats.{seat_knowing, mine, unmoved, Rule}
use Rattle.desk_invariant.proofs.Ties.{tied_row}
use Rattle.desk_invariant.proofs.Locks.{held_log, held_object, one_object, one_log}

-- a row that has the word of a request for the object has such a request
is_posted : (stage : Stage) (object : ℕ) → object < max_objects → row_word stage ≡ 1 + object
    → (request : AnyRequest) × (stage ≡ posted request) × (request.object ≡ object)
is_posted stage object low word = grind arith

-- the stage of a call that waits
abbrev Waits : AnyRequest → Stage → Type 0
Waits request stage = OwnCallAgrees (own.Waiting request) stage

-- the own call that is posted is the one that waits
own_posted : (waiting request : AnyRequest) (call : Own) (stage : Stage) → OwnCallAgrees call stage
    → call ≡ own.Waiting waiting → stage ≡ posted request → request ≡ waiting
own_posted waiting request call stage ok is at = grind arith

same_posted : (p q : AnyRequest) → posted p ≡ posted q → p ≡ q
same_posted p q e = cc

-- what a client knows of its own call stays true while the call goes on waiting
own_waits : (call : Own) (request : AnyRequest) (stage stage' : Stage) → Waits request stage → Waits request stage'
    → OwnCallAgrees call stage → OwnCallAgrees call stage'
own_waits call request stage stage' from to ok = grind arith

-- the requests that were put back into other rows are in them still after the row has gone to the stage
other_rows : (world : World) (client row : ℕ) (stage : Stage) (back : List PutBack)
    → All (InRow world.stage world.holder client) back
    → All (InRow (changed world.stage row stage) world.holder client) (filter (λ b. not (eqb b.row row)) back)
other_rows world client row stage [] in_rows = All-nil (InRow (changed world.stage row stage) world.holder client)
other_rows world client row stage (b ∷ back) in_rows =
    let later = All-tail (InRow world.stage world.holder client) b back in_rows in
    let rest = other_rows world client row stage back later in
    let first = All-head (InRow world.stage world.holder client) b back in_rows in
    dite (ℕ_discrete b.row row)
    (λ same. rw (eq-eqb b.row row same) rest)
    (λ other. rw (ne_eqb b.row row other)
    (All-cons (InRow (changed world.stage row stage) world.holder client) b (filter (λ b. not (eqb b.row row)) back)
    (changed_else world.stage row stage b.row other ∙ first.0, first.1) rest))

-- ---- what the clients know, when the call of one row goes to another stage and still waits

-- the call of the row waits before it goes to the stage and after it, was not answered, and logs only grow
record GoesOn (world : World) (row : ℕ) (request : AnyRequest) (stage : Stage) (logs : ℕ → List AnyEntry) : Type 0 where
  from : Waits request (world.stage row)
  to : Waits request stage
  unanswered : NotAnswered (world.stage row)
  grow : (y : ℕ) → StartsWith (logs y) (world.log y)

module _ (world : World) (row : ℕ) (request : AnyRequest) (stage : Stage) (logs : ℕ → List AnyEntry)
    (goes : GoesOn world row request stage logs) where
  -- the world after it, with this in the hands of the holders
  abbrev rowed : (ℕ → Option ℕ) → World
  rowed hands = record world { hand = hands; log = logs; stage = changed world.stage row stage }

  -- a client's own call
  own_after : (client : ℕ) (call : Own) → OwnCallAgrees call (world.stage client)
      → OwnCallAgrees call (changed world.stage row stage client)
  own_after client call =
      changed_all (λ d u. OwnCallAgrees call (world.stage d) → OwnCallAgrees call u) world.stage row stage
      (own_waits call request (world.stage row) stage goes.from goes.to) (λ d _ e. e) client

  -- a call that is answered
  ready_after : (client : ℕ) (q : AnyRequest) (a : AnyAnswer) → world.stage client ≡ answered q a
      → changed world.stage row stage client ≡ answered q a
  ready_after client q a e =
      changed_else world.stage row stage client (λ same. goes.unanswered q a (ap world.stage (sym same) ∙ e)) ∙ e

  -- Another client keeps what it knows at a step of the client that holds the object: it has not picked the row up, and
  -- does not hold the object of a request that is posted there.
  later_row : (object client another : ℕ) (hand : Option ℕ) → ((y : ℕ) → y ≢ object → logs y ≡ world.log y)
      → ((y : ℕ) (p : AnyRequest) → world.holder y ≡ Some another → world.hand y ≡ Some row
      → world.stage row ≢ picked p)
      → ((p : AnyRequest) → world.holder p.object ≡ Some another → world.stage row ≢ posted p)
      → world.holder object ≡ Some client → another ≢ client
      → Later world (rowed (changed world.hand object hand)) another
  later_row object client another hand keep apart unposted holds other =
      let away : (y : ℕ) → world.holder y ≡ Some another → y ≢ object =
      λ y g same. other (sym (same_Some client another (sym holds ∙ (ap world.holder (sym same) ∙ g)))) in
      let held : (y : ℕ) → world.holder y ≡ Some another
      → (world.holder y ≡ world.holder y) × (changed world.hand object hand y ≡ world.hand y) × (logs y ≡ world.log y) =
      λ y g. (refl, changed_else world.hand object hand y (away y g), keep y (away y g)) in
      assumption (
        held,
        own_after another,
        ready_after another,
        goes.grow,
        λ (y j : ℕ) (p : AnyRequest) (g : world.holder y ≡ Some another) (e : world.hand y ≡ Some j)
            (f : world.stage j ≡ picked p).
            changed_else world.stage row stage j
            (λ same. apart y p g (e ∙ ap Some same) (ap world.stage (sym same) ∙ f)) ∙ f,
        λ (j : ℕ) (p : AnyRequest) (g : world.holder p.object ≡ Some another) (e : world.stage j ≡ posted p).
            changed_else world.stage row stage j (λ same. unposted p g (ap world.stage (sym same) ∙ e)) ∙ e,
      )

  -- the client of the step agrees with the world then, if what it holds does, and what was put back is in its row
  seat_row : (kinds : List Kind) (hands : ℕ → Option ℕ) (client : ℕ) (view : DeskView) (holding : Held)
      (back : List PutBack) → All (InRow (changed world.stage row stage) world.holder client) back
      → SeatAgrees kinds world client view → HeldAgrees (length kinds) (rowed hands) client holding
      → SeatAgrees kinds (rowed hands) client (record view { held = holding; back = back })
  seat_row kinds hands client view holding back in_rows ok now =
      let ready : view.ready ≡ true → IsAnswered (changed world.stage row stage client) =
      λ is. let (q, a, at) = ok.ready is in (q, a, ready_after client q a at) in
      assumption (
        ready,
        own_after client view.own ok.own,
        λ (y : ℕ). starts_longer (logs y) (world.log y) (seen_of view y) (goes.grow y) (ok.seen y),
      )

-- ---- a miss

-- the call on an object that the client holds with a free hand is answered, if its row was not posted for the object
noted : (kinds : List Kind) (quota client object : ℕ) (world : World) (call : Own) → Sound kinds quota world
    → world.hand object ≡ None → row_word (world.stage client) ≢ 1 + object → waits_on object call ≡ true
    → OwnCallAgrees call (world.stage client) → IsAnswered (world.stage client)
noted kinds quota client object world call sound free miss waits ok =
    grind (arith, sound.picked_up client, eqb-true)

-- the view of a client that found no request for its object in the row is true
noting_ok : {kinds : List Kind} {quota client object : ℕ} {world : World} {log : List AnyEntry} (row : ℕ)
    (view : DeskView) → Sound kinds quota world → SeatAgrees kinds world client view → view.held ≡ held.Pass object log
    → row_word (world.stage row) ≢ 1 + object
    → SeatAgrees kinds world client (after_row_miss (row_place row) object view)
noting_ok {kinds = kinds} {quota = quota} {client = client} {object = object} {world = world} row view sound ok holding
    miss =
    let free = (pass_of ok holding).free in
    let number = ok.number in
    let own_row : Bool = eqb (row_place row) (row_place view.number) in
    let here : own_row ≡ true → row ≡ client =
    λ e. let same = eqb-true (row_place row) (row_place view.number) e in omega arith in
    let now : (own_row && waits_on object view.own) ≡ true → IsAnswered (world.stage client) =
    λ e. let (own, waits) = and_parts own_row (waits_on object view.own) e in noted kinds quota client object world
    view.own sound free (subst (λ z. row_word (world.stage z) ≢ 1 + object) (here own) miss) waits ok.own in
    seat_knowing (λ e. ⊎_elim ok.ready now (or_cases view.ready (own_row && waits_on object view.own) e)) ok.retired ok

module _ {S O R : Type 0} (content : S → Content) (op_in : O → AnyOp) (reply_in : R → AnyReply) (kinds : List Kind)
    (clients quota : ℕ) where
  abbrev DeskRule : State (Slot S O R) DeskView → Type 0
  DeskRule = Rule content op_in reply_in kinds clients quota

  abbrev held_row : Held → ℕ
  held_row (held.Hand x l r q) = r
  held_row o = 0

  abbrev held_request : AnyRequest → Held → AnyRequest
  held_request d (held.Hand x l r q) = q
  held_request d o = d

  -- ---- looking at a row, and picking its request up

  -- what a miss at the row tells: no request for the object was put back there
  row_missed : {world : World} {client object object' : ℕ} {log log' : List AnyEntry} (row row' : ℕ)
      (me : Me (Slot S O R) DeskView) → SeatAgrees kinds world client me.0
      → me.0.held ≡ held.Pass object log → me.0.held ≡ held.Pass object' log' → row ≡ row'
      → row_word (world.stage row) ≢ 1 + object
      → (◌≡◌ {A = Me (Slot S O R) DeskView} (after_row_miss (row_place row) object me.0, me.1)
      (after_row_miss (row_place row) object' me.0, me.1)) × All (λ b. b.row ≢ row') me.0.back
  row_missed {world = world} {client = client} row row' me ok holding holding' same_row miss =
      let pass = pass_of ok holding in
      let none_there : All (λ b. b.row ≢ row') me.0.back =
      All-weaker (InRow world.stage world.holder client) (λ b. b.row ≢ row')
      (λ b at there. miss (ap (λ j. row_word (world.stage j)) (same_row ∙ sym there)
      ∙ (ap row_word at.0 ∙ ap (λ n. 1 + n) (pass.only b.request.object at.1)))) me.0.back ok.back in
      (ap (λ z. (after_row_miss (row_place row) z me.0, me.1)) (one_object holding holding'), none_there)

  -- a look at a row keeps the rule, with an object held and nothing in hand
  pub look_at_row_keeps_rule : (slots id object row : ℕ) (me : Me (Slot S O R) DeskView) (log : List AnyEntry)
      → me.0.role ≡ role.Client → row < max_clients → me.0.held ≡ held.Pass object log
      → Allows DeskRule slots id me (row_place row) (λ f. f)
      (play.looks_at_row content op_in reply_in (step slots (row_place row) 0 0 maybe.none) me)
  look_at_row_keeps_rule slots id object row me log is_client few holding state rule deep at small =
      let world : World = rule.world in
      let found : ℕ = get_or state.words (row_place row) 0 in
      let ok = mine rule id is_client at in
      let word : found ≡ row_word (world.stage row) = rule.tied.rows row few in
      let look : Step (Slot S O R) = step slots (row_place row) 0 0 maybe.none in
      dite (ℕ_discrete found (1 + object))
      -- there is a request for the object: nothing is told
      (λ hit.
      let told : play.looks_at_row content op_in reply_in look me found me =
      λ object' row' log' holding' place.
      ((λ _. refl), λ miss. absurd (miss (hit ∙ ap (λ z. 1 + z) (one_object holding holding')))) in
      (me.0, keeps, tt, looks rule (row_place row) id me.1 is_client at, told))
      -- At another word the client notes a miss.
      (λ miss.
      let view' : DeskView = after_row_miss (row_place row) object me.0 in
      let knows : SeatAgrees kinds world me.0.number view' =
      noting_ok row me.0 rule.sound ok holding (λ e. miss (word ∙ e)) in
      let told : play.looks_at_row content op_in reply_in look me found (view', me.1) =
      λ object' row' log' holding' place. (
        (λ hit. absurd (miss (hit ∙ ap (λ z. 1 + z) (sym (one_object holding holding'))))),
        λ _. row_missed row row' me ok holding holding' (omega arith) (λ f. miss (word ∙ f)),
      ) in
      (view', keeps, tt, unmoved rule (row_place row) id view' me.1 at is_client alike knows, told))

  -- what the client is told of the request that came out of the row
  record IsPickedUp (me after : Me (Slot S O R) DeskView) (object row : ℕ) (log : List AnyEntry)
      (sent : Request O) : Type 0 where
    for_object : sent.object ≡ object
    of_kind : kind_of (op_in sent.op) ≡ kind_at me.0.kinds object
    hand : after
        ≡ (after_pick object log row (request_in op_in sent) me.0, (call_slot row, slot.Request sent) ∷ me.1)
    put_back_here : All (λ b. b.row ≡ row → b.request ≡ request_in op_in sent) me.0.back
    own_one : (q : AnyRequest) → row ≡ me.0.number → me.0.own ≡ own.Waiting q → request_in op_in sent ≡ q

  -- a client that holds an object with a free hand tries to pick up the request of a row
  module _ {state : State (Slot S O R) DeskView} (rule : DeskRule state) (slots id object row : ℕ)
      (me : Me (Slot S O R) DeskView) (log : List AnyEntry) (is_client : me.0.role ≡ role.Client)
      (at : get_elem? state.views id ≡ some me.0) (few : row < max_clients)
      (holding : me.0.held ≡ held.Pass object log) where
    -- the word of the row
    abbrev found_there : ℕ
    found_there = get_or state.words (row_place row) 0

    -- the word of a row whose request for the object was picked up
    abbrev picked_word : ℕ
    picked_word = first_picked + object

    -- the step of the try
    abbrev try_to_pick : Step (Slot S O R)
    try_to_pick = step slots (row_place row) (1 + object) picked_word maybe.none

    -- the table allows the try in this state
    abbrev MayPick : Type 0
    MayPick = AllowsIn content op_in reply_in kinds clients quota state id me (row_place row)
        (λ f. either (eqb f (1 + object)) picked_word f) (play.picks content op_in reply_in try_to_pick me)

    -- the row has this request for the object
    module _ (sent : Request O) (was : rule.world.stage row ≡ posted (request_in op_in sent))
        (on : sent.object ≡ object) where
      -- the stage of the row's call after its request was picked up
      abbrev stage_picked : Stage
      stage_picked = picked (request_in op_in sent)

      -- the client's view after it has picked the request up
      abbrev view_picked : DeskView
      view_picked = after_pick object log row (request_in op_in sent) me.0

      -- the client with its slots after it has picked the request up
      abbrev me_picked : Me (Slot S O R) DeskView
      me_picked = (view_picked, (call_slot row, slot.Request sent) ∷ me.1)

      -- The row goes on with its call when its request is picked up.
      picking_goes_on : GoesOn rule.world row (request_in op_in sent) stage_picked rule.world.log
      picking_goes_on = record {
        from = inl was;
        to = inr (inl refl);
        unanswered = λ q a e. absurd cc;
        grow = λ y. starts_same (rule.world.log y);
      }

      -- No other client holds the object of the request in the row.
      not_of_another : (another : ℕ) → another ≢ me.0.number → (p : AnyRequest)
          → rule.world.holder p.object ≡ Some another → rule.world.stage row ≢ posted p
      not_of_another another other p e f =
          let pass = pass_of (mine rule id is_client at) holding in
          let same : request_in op_in sent ≡ p = same_posted (request_in op_in sent) p (sym was ∙ f) in
          let holds : rule.world.holder object ≡ Some another =
          ap rule.world.holder (sym on ∙ ap (λ z. z.object) same) ∙ e in
          other (sym (same_Some me.0.number another (sym pass.holds ∙ holds)))

      -- The client agrees with the world once it has the request in hand.
      picker_agrees : SeatAgrees kinds (handed rule.world object (Some row) row stage_picked) me.0.number view_picked
      picker_agrees =
          let world : World = rule.world in
          let ok = mine rule id is_client at in
          let pass = pass_of ok holding in
          let hands : ℕ → Option ℕ = changed world.hand object (Some row) in
          let in_hand : hands object ≡ Some row = changed_here world.hand object (Some row) in
          let is_picked : changed world.stage row stage_picked row ≡ stage_picked =
          changed_here world.stage row stage_picked in
          let now : HeldAgrees (length kinds) (handed world object (Some row) row stage_picked) me.0.number
          (held.Hand object log row (request_in op_in sent)) =
          (pass.inside, pass.holds, in_hand, pass.logged, pass.only, few, is_picked) in
          seat_row world row (request_in op_in sent) stage_picked world.log picking_goes_on kinds hands me.0.number me.0
          (held.Hand object log row (request_in op_in sent)) view_picked.back
          (other_rows world me.0.number row stage_picked me.0.back ok.back) ok now

      -- The world after the request was picked up is as the rule asks.
      after_picking : After rule me.0 view_picked (set state.words (row_place row) picked_word)
          (set state.homes (call_slot row) maybe.none)
      after_picking =
          let world : World = rule.world in
          let client : ℕ = me.0.number in
          let request : AnyRequest = request_in op_in sent in
          let pass = pass_of (mine rule id is_client at) holding in
          record {
            world = handed world object (Some row) row stage_picked;
            holders = rule.holders;
            come = come_after clients world row stage_picked (rule.come row (λ e. absurd cc)) rule.come;
            sound = sound_picked kinds quota world object row client request was on pass.holds pass.free rule.sound;
            -- the words and the slots agree with the new world
            tied = tied_row row picked_word stage_picked (changed world.hand object (Some row)) world.log maybe.none few
                (λ y _. refl) (λ e. absurd (cc)) (ap request_of (sym was)) (ap (λ z. first_picked + z) (sym on)) tt
                rule.tied;
            leave = row_leaves world row stage_picked (ap request_of was);
            -- the other clients keep what they know
            others = λ another other. later_row world row request stage_picked world.log picking_goes_on object client
                another (Some row) (λ y _. refl) (λ y p _ _ e. absurd cc) (not_of_another another other) pass.holds
                other;
            own = picker_agrees;
          }

      -- The client is told of the request.
      picked_told : IsPickedUp me me_picked object row log sent
      picked_told =
          let world : World = rule.world in
          let client : ℕ = me.0.number in
          let request : AnyRequest = request_in op_in sent in
          let ok = mine rule id is_client at in
          let fits = rule.sound.fitting row request (ap request_of was) in
          record {
            for_object = on;
            of_kind = fits.0 ∙ (λ i. kind_at (sym ok.kinds_are i) (on i));
            hand = refl;
            put_back_here =
                All-weaker (InRow world.stage world.holder client) (λ b. b.row ≡ row → b.request ≡ request)
                (λ b at there. same_posted b.request request (sym at.0 ∙ (ap world.stage there ∙ was))) me.0.back
                ok.back;
            own_one = λ q here waiting. own_posted q request me.0.own (world.stage client) ok.own waiting
                (ap world.stage (sym here) ∙ was);
          }

      -- A hit tells what the step promises, by whichever names the pass and the row have, and is no miss.
      hit_told : found_there ≡ 1 + object
          → play.picks content op_in reply_in try_to_pick me found_there me_picked
      hit_told hit object' row' log' holding' place =
          let same_object : object ≡ object' = one_object holding holding' in
          let same_row : row ≡ row' = omega arith in
          let t = subst (λ (z : ℕ × ℕ × List AnyEntry). IsPickedUp me me_picked z.0 z.1 z.2 sent)
          (λ i. (same_object i, same_row i, one_log holding holding' i)) picked_told in (
            (λ _. (sent, t.for_object, t.of_kind, t.hand, t.put_back_here, t.own_one)),
            λ miss. absurd (miss (hit ∙ ap (λ z. 1 + z) same_object)),
          )

      -- The table allows the try if the request is in its slot.
      may_pick : get_elem? state.homes (call_slot row) ≡ some (some (slot.Request sent)) → found_there ≡ 1 + object
          → MayPick
      may_pick at_home hit = (
        view_picked,
        takes (call_slot row) (slot.Request sent),
        at_home,
        rw (eq-eqb found_there (1 + object) hit) (kept_after rule id view_picked at is_client alike after_picking),
        hit_told hit,
      )

    -- At the word of a request for the object the client picks it up.
    pick_hits : found_there ≡ 1 + object → MayPick
    pick_hits hit =
        let pass = pass_of (mine rule id is_client at) holding in
        let inside = pass.inside in
        let few_objects = rule.tied.objects in
        let low : object < max_objects = omega arith in
        let (request, was, on) = is_posted (rule.world.stage row) object low (sym (rule.tied.rows row few) ∙ hit) in
        let (sent, at_home, image) = subst (CallAt content op_in reply_in (get_elem? state.homes (call_slot row))) was
        (rule.tied.calls row few) in
        let was_sent : rule.world.stage row ≡ posted (request_in op_in sent) = was ∙ ap posted (sym image) in
        let on_sent : sent.object ≡ object = ap (λ z. z.object) image ∙ on in
        may_pick sent was_sent on_sent at_home hit

    -- At another word the client notes a miss.
    pick_misses : found_there ≢ 1 + object → MayPick
    pick_misses miss =
        let ok = mine rule id is_client at in
        let word : found_there ≡ row_word (rule.world.stage row) = rule.tied.rows row few in
        let view' : DeskView = after_row_miss (row_place row) object me.0 in
        let knows : SeatAgrees kinds rule.world me.0.number view' =
        noting_ok row me.0 rule.sound ok holding (λ e. miss (word ∙ e)) in
        let told : play.picks content op_in reply_in try_to_pick me found_there (view', me.1) =
        λ object' row' log' holding' place. (
          (λ hit. absurd (miss (hit ∙ ap (λ z. 1 + z) (sym (one_object holding holding'))))),
          λ _. row_missed row row' me ok holding holding' (omega arith) (λ f. miss (word ∙ f)),
        ) in (
          view',
          keeps,
          tt,
          rw (ne_eqb found_there (1 + object) miss) (unmoved rule (row_place row) id view' me.1 at is_client alike
              knows),
          told,
        )

  -- a try to pick up a row's request keeps the rule, with its object held and nothing in hand
  pub pick_keeps_rule : (slots id object row : ℕ) (me : Me (Slot S O R) DeskView) (log : List AnyEntry)
      → me.0.role ≡ role.Client → row < max_clients → me.0.held ≡ held.Pass object log
      → Allows DeskRule slots id me (row_place row) (λ f. either (eqb f (1 + object)) (first_picked + object) f)
      (play.picks content op_in reply_in (step slots (row_place row) (1 + object) (first_picked + object) maybe.none)
      me)
  pick_keeps_rule slots id object row me log is_client few holding state rule deep at small =
      dite (ℕ_discrete (get_or state.words (row_place row) 0) (1 + object))
      (pick_hits rule slots id object row me log is_client at few holding)
      (pick_misses rule slots id object row me log is_client at few holding)

  -- ---- putting the request back

  -- no row that another client has in hand is the one that the client has in hand
  apart : {world : World} {client object row : ℕ} {log : List AnyEntry} {request : AnyRequest} (another : ℕ)
      → IsHand kinds world client object log row request → request.object ≡ object → another ≢ client
      → Sound kinds quota world
      → (y : ℕ) (p : AnyRequest) → world.holder y ≡ Some another → world.hand y ≡ Some row → world.stage row ≢ picked p
  apart {row = row} another hand on other sound y p e f g =
      let is = hand.picked_up in
      let holds = hand.holds in
      grind (arith, sound.in_hand y row f)

  -- a client that has the request of a row in hand puts it back
  module _ {state : State (Slot S O R) DeskView} (rule : DeskRule state) (id object row : ℕ)
      (me : Me (Slot S O R) DeskView) (log : List AnyEntry) (request : AnyRequest) (is_client : me.0.role ≡ role.Client)
      (at : get_elem? state.views id ≡ some me.0) (holding : me.0.held ≡ held.Hand object log row request)
      (on : request.object ≡ object) where
    -- The client has the request in hand before it puts it back.
    hand_before : IsHand kinds rule.world me.0.number object log row request
    hand_before = hand_of (mine rule id is_client at) holding

    -- the client's view after the request was put back
    abbrev view_put_back : DeskView
    view_put_back = after_put_back object log row request me.0

    -- The row goes on with its call when its request is put back.
    putting_back_goes_on : GoesOn rule.world row request (posted request) rule.world.log
    putting_back_goes_on =
        let was : rule.world.stage row ≡ picked request = hand_before.picked_up in
        record {
          from = inr (inl was);
          to = inl refl;
          unanswered = λ q a e. absurd cc;
          grow = λ y. starts_same (rule.world.log y);
        }

    -- The request was not in its row before.
    not_there : NotPosted (rule.world.stage row)
    not_there p e = let was = hand_before.picked_up in absurd cc

    -- The client agrees with the world once its hand is empty and the request is in its row.
    putter_agrees : SeatAgrees kinds (handed rule.world object None row (posted request)) me.0.number view_put_back
    putter_agrees =
        let world : World = rule.world in
        let client : ℕ = me.0.number in
        let stage : Stage = posted request in
        let ok = mine rule id is_client at in
        let hand = hand_before in
        let hands : ℕ → Option ℕ = changed world.hand object None in
        let empty : hands object ≡ None = changed_here world.hand object None in
        let now : HeldAgrees (length kinds) (handed world object None row stage) client (held.Pass object log) =
        (hand.inside, hand.holds, empty, hand.logged, hand.only) in
        let put : PutBack = record { row = row; request = request } in
        let in_row : InRow (changed world.stage row stage) world.holder client put =
        (changed_here world.stage row stage, ap world.holder on ∙ hand.holds) in
        let in_rows = All-push (InRow (changed world.stage row stage) world.holder client) me.0.back put
        (rows_stay world client row stage me.0.back not_there ok.back) in_row in
        seat_row world row request stage world.log putting_back_goes_on kinds hands client me.0 (held.Pass object log)
        view_put_back.back in_rows ok now

    -- The world after the request was put back is as the rule asks.
    after_putting_back : (sent : Request O) → request_in op_in sent ≡ request
        → After rule me.0 view_put_back (set state.words (row_place row) (1 + object))
        (set state.homes (call_slot row) (some (slot.Request sent)))
    after_putting_back sent is =
        let world : World = rule.world in
        let client : ℕ = me.0.number in
        let stage : Stage = posted request in
        let hand = hand_before in
        let was : world.stage row ≡ picked request = hand.picked_up in
        record {
          world = handed world object None row stage;
          holders = rule.holders;
          come = come_after clients world row stage (rule.come row (λ e. absurd cc)) rule.come;
          sound = sound_put_back kinds quota world object row client request was on hand.holds hand.in_hand rule.sound;
          -- the words and the slots agree with the new world
          tied = tied_row row (1 + object) stage (changed world.hand object None) world.log (some (slot.Request sent))
              hand.few (λ y _. refl) (λ e. absurd (cc)) (ap request_of (sym was)) (ap (λ z. 1 + z) (sym on))
              (sent, refl, is) rule.tied;
          leave = row_leaves world row stage (ap request_of was);
          -- the other clients keep what they know
          others = λ another other. later_row world row request stage world.log putting_back_goes_on object client
              another None (λ y _. refl) (apart another hand on other rule.sound) (λ p _. not_there p) hand.holds
              other;
          own = putter_agrees;
        }

  -- putting the request in hand back keeps the rule, with the word of its object
  pub put_back_keeps_rule : (slots id object row word : ℕ) (me : Me (Slot S O R) DeskView) (log : List AnyEntry)
      (request : AnyRequest) (sent : Request O) (more : List (ℕ × Slot S O R))
      → me.0.role ≡ role.Client → me.0.held ≡ held.Hand object log row request
      → me.1 ≡ (call_slot row, slot.Request sent) ∷ more → request_in op_in sent ≡ request → request.object ≡ object
      → word ≡ 1 + object
      → Allows DeskRule slots id me (row_place row) (λ _. word)
      (λ _. play.puts_back content op_in reply_in (step slots (row_place row) word 0 maybe.none) me word)
  put_back_keeps_rule slots id object row word me log request sent more is_client holding carried is on is_word state
      rule deep at small =
      let view' : DeskView = after_put_back object log row request me.0 in
      let after : After rule me.0 view' (set state.words (row_place row) word)
      (set state.homes (call_slot row) (some (slot.Request sent))) =
      rw is_word (after_putting_back rule id object row me log request is_client at holding on sent is) in
      let told : play.puts_back content op_in reply_in (step slots (row_place row) word 0 maybe.none) me word
      (view', rest me.1) =
      λ object' row' log' request' holding'.
      let same = sym holding ∙ holding' in
      λ i. (
        after_put_back (ap held_object same i) (ap held_log same i) (ap held_row same i)
            (ap (held_request request) same i) me.0,
        rest me.1,
      ) in
      (view', gives, tt, rw carried (kept_after rule id view' at is_client alike after), told)

  -- ---- answering the request

  -- each log begins with what it was, after that of the object has grown by these entries
  grows : (world : World) (object : ℕ) (entries : List AnyEntry) (y : ℕ)
      → StartsWith (changed world.log object (world.log object ++ entries) y) (world.log y)
  grows world object entries =
      changed_all (λ y l. StartsWith l (world.log y)) world.log object (world.log object ++ entries) (entries, refl)
      (λ y _. starts_same (world.log y))

  -- the row goes on with its call when it is answered
  answered_on : (world : World) (object row : ℕ) (request : AnyRequest) (answer : AnyAnswer)
      → world.stage row ≡ picked request
      → GoesOn world row request (answered request answer)
      (changed world.log object (world.log object ++ logged row request answer))
  answered_on world object row request answer was = record {
    from = inr (inl was);
    to = inr (inr (answer, refl));
    unanswered = λ q a e. absurd cc;
    grow = grows world object (logged row request answer);
  }

  -- the client that answered, and knows that its own row is answered if it was that one
  seat_answered : (world : World) (client object row : ℕ) (request : AnyRequest) (answer : AnyAnswer) (view : DeskView)
      (holding : Held) → world.stage row ≡ picked request → SeatAgrees kinds world client view
      → HeldAgrees (length kinds) (served_by world object row request answer) client holding
      → SeatAgrees kinds (served_by world object row request answer) client
      (record view { held = holding; ready = view.ready || eqb row view.number })
  seat_answered world client object row request answer view holding was ok now =
      let stage : Stage = answered request answer in
      let logs : ℕ → List AnyEntry = changed world.log object (world.log object ++ logged row request answer) in
      let in_rows = rows_stay world client row stage view.back (λ p e. absurd cc) ok.back in
      let base = seat_row world row request stage logs (answered_on world object row request answer was) kinds
      (changed world.hand object None) client view holding view.back in_rows ok now in
      let here : eqb row view.number ≡ true → IsAnswered (changed world.stage row stage client) =
      λ b.
      let same : client ≡ row = sym (eqb-true row view.number b ∙ ok.number) in
      (request, answer, ap (changed world.stage row stage) same ∙ changed_here world.stage row stage) in
      seat_knowing (λ e. ⊎_elim base.ready here (or_cases view.ready (eqb row view.number) e)) base.retired base

  abbrev pub answer_or : Answer R → Slot S O R → Answer R
  answer_or d (slot.Answer a) = a
  answer_or d o = d

  abbrev pub answer_carried : Answer R → List (ℕ × Slot S O R) → Answer R
  answer_carried d (y ∷ ys) = answer_or d y.1
  answer_carried d [] = d

  -- a client that has the request of a row in hand answers it, and the log is legal with the answer
  module _ {state : State (Slot S O R) DeskView} (rule : DeskRule state) (id object row : ℕ)
      (me : Me (Slot S O R) DeskView) (log : List AnyEntry) (request : AnyRequest) (given : Answer R)
      (is_client : me.0.role ≡ role.Client) (at : get_elem? state.views id ≡ some me.0)
      (holding : me.0.held ≡ held.Hand object log row request) (on : request.object ≡ object)
      (legal : IsLegalLog (kind_at me.0.kinds object) (log ++ logged row request (answer_in reply_in given))) where
    -- the entries by which the log of the object grows
    abbrev entries_answered : List AnyEntry
    entries_answered = logged row request (answer_in reply_in given)

    -- the logs after the answer
    abbrev logs_answered : ℕ → List AnyEntry
    logs_answered = changed rule.world.log object (rule.world.log object ++ entries_answered)

    -- the world after the answer
    abbrev world_answered : World
    world_answered = served_by rule.world object row request (answer_in reply_in given)

    -- The client holds the object with the longer log, and has nothing in hand.
    answerer_holds : HeldAgrees (length kinds) world_answered me.0.number (held.Pass object (log ++ entries_answered))
    answerer_holds =
        let world : World = rule.world in
        let hand = hand_of (mine rule id is_client at) holding in
        let empty : changed world.hand object None object ≡ None = changed_here world.hand object None in
        let long : logs_answered object ≡ log ++ entries_answered =
        changed_here world.log object (world.log object ++ entries_answered)
        ∙ ap (λ z. z ++ entries_answered) hand.logged in
        (hand.inside, hand.holds, empty, long, hand.only)

    -- The longer log is legal in the world.
    legal_there : IsLegalLog (kind_at kinds object) (rule.world.log object ++ entries_answered)
    legal_there =
        let ok = mine rule id is_client at in
        let hand = hand_of ok holding in
        subst (λ (z : List Kind × List AnyEntry). IsLegalLog (kind_at z.0 object) (z.1 ++ entries_answered))
        (λ i. (ok.kinds_are i, sym hand.logged i)) legal

    -- The world after the answer is as the rule asks.
    after_answering : After rule me.0 (after_answer row object (log ++ entries_answered) me.0)
        (set state.words (row_place row) answered_word)
        (set state.homes (call_slot row) (some (slot.Answer given)))
    after_answering =
        let world : World = rule.world in
        let client : ℕ = me.0.number in
        let answer : AnyAnswer = answer_in reply_in given in
        let stage : Stage = answered request answer in
        let ok = mine rule id is_client at in
        let hand = hand_of ok holding in
        let was : world.stage row ≡ picked request = hand.picked_up in
        let goes : GoesOn world row request stage logs_answered = answered_on world object row request answer was in
        let keep : (y : ℕ) → y ≢ object → logs_answered y ≡ world.log y =
        changed_else world.log object (world.log object ++ entries_answered) in
        record {
          world = world_answered;
          holders = rule.holders;
          come = come_after clients world row stage (rule.come row (λ e. absurd cc)) rule.come;
          sound = sound_served kinds quota world object row client request answer was on hand.holds hand.in_hand
              legal_there rule.sound;
          -- the words and the slots agree with the new world
          tied = tied_row row answered_word stage (changed world.hand object None) logs_answered
              (some (slot.Answer given)) hand.few (λ y e. keep y (λ same. absurd cc)) (λ e. absurd (cc))
              (ap request_of (sym was)) refl (given, refl, refl) rule.tied;
          leave = row_leaves world row stage (ap request_of was);
          -- the other clients keep what they know
          others = λ another other. later_row world row request stage logs_answered goes object client another None keep
              (apart another hand on other rule.sound) (λ p _ e. absurd cc) hand.holds other;
          own = seat_answered world client object row request answer me.0 (held.Pass object (log ++ entries_answered))
              was ok answerer_holds;
        }

  -- answering the request in hand keeps the rule, if the log is legal with the answer
  pub answer_keeps_rule : (slots id object row : ℕ) (me : Me (Slot S O R) DeskView) (log : List AnyEntry)
      (request : AnyRequest) (given : Answer R) (more : List (ℕ × Slot S O R))
      → me.0.role ≡ role.Client → me.0.held ≡ held.Hand object log row request
      → me.1 ≡ (call_slot row, slot.Answer given) ∷ more → request.object ≡ object
      → IsLegalLog (kind_at me.0.kinds object) (log ++ logged row request (answer_in reply_in given))
      → Allows DeskRule slots id me (row_place row) (λ _. answered_word)
      (λ _. play.answers content op_in reply_in (step slots (row_place row) answered_word 0 maybe.none) me
      answered_word)
  answer_keeps_rule slots id object row me log request given more is_client holding carried on legal state rule deep at
      small =
      let view' : DeskView = after_answer row object (log ++ logged row request (answer_in reply_in given)) me.0 in
      let after = after_answering rule id object row me log request given is_client at holding on legal in
      -- the view and the slots in hand after the step
      let told : play.answers content op_in reply_in (step slots (row_place row) answered_word 0 maybe.none) me
      answered_word (view', rest me.1) =
      λ object' row' i log' request' given' more' holding' carried'.
      let same = sym holding ∙ holding' in
      let same_given = ap (answer_carried given) (sym carried ∙ carried') in
      λ j. (
        after_answer (ap held_row same j) (ap held_object same j)
            (ap held_log same j ++ logged (ap held_row same j) (ap (held_request request) same j)
            (answer_in reply_in (same_given j))) me.0,
        rest (carried' j),
      ) in
      (view', gives, tt, rw carried (kept_after rule id view' at is_client alike after), told)
