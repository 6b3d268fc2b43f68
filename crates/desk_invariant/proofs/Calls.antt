-- The steps of a client's own call keep the rule: drawing tickets, posting, and taking the answer. The client's call
-- is in no hand, so no other client knows its stage (`later_gone`), and its own view changes with it (`seat_gone`).
use Rattle.std.proofs.Common.{◌≡◌, ◌≢◌, ℕ, ◌+◌, ◌%◌, ◌^◌, ◌<◌, eqb, true, false, List, [], ◌∷◌, ◌++◌, length, set}
use Rattle.std.proofs.Common.{get_or, None, Some, All, refl, sym, ap, subst, ◌∙◌, inl, arith, eq-eqb, ne_eqb}
use Rattle.std.proofs.Common.{append-nil}
use Rattle.std.proofs.lemmas.Bool.{false_from_ne_true}
use mathlib.Core.Logic.{dite}
use mathlib.Core.Option as maybe
use mathlib.Core.Option.{some}
use native.Mathlib.Decide.{ℕ_discrete}
use lib.ListN.{get_elem?}
use prog.Atomic.{either}
use Rattle.atomic_table.specs.Table.{State, Me, Step, step, keeps, takes, gives, rest, Allows}
use Rattle.model.specs.declared.Kind.{Kind}
use Rattle.model.specs.declared.AnyOp.{AnyOp}
use Rattle.model.specs.declared.AnyReply.{AnyReply}
use Rattle.model.specs.Objects.{Content, kind_of}
use Rattle.desk_invariant.specs.declared.board.Slot.{Slot}
use Rattle.desk_invariant.specs.declared.board.Slot.TheVariants as slot
use Rattle.desk_invariant.specs.declared.board.Own.{Own}
use Rattle.desk_invariant.specs.declared.board.Own.TheVariants as own
use Rattle.desk_invariant.specs.declared.board.Held.{Held}
use Rattle.desk_invariant.specs.declared.board.Held.TheVariants as held
use Rattle.desk_invariant.specs.declared.board.Role.TheVariants as role
use Rattle.desk_invariant.specs.declared.board.DeskView.{DeskView}
use Rattle.desk_model.specs.declared.Request.{Request}
use Rattle.desk_model.specs.declared.Answer.{Answer}
use Rattle.desk_model.specs.World.{AnyEntry, AnyRequest, AnyAnswer, AnyDone, Stage, idle, drawn, posted, picked}
use Rattle.desk_model.specs.World.{answered, taken, World, kind_at, logged, logged_on, entries_of_client, served}
use Rattle.desk_model.specs.World.{served_now, request_of, calls_made, journal_of, IsLegalLog, StartsWith}
use Rattle.desk_model.specs.Transitions.{changed, staged, ticked}
use Rattle.desk_model.specs.Sound.{Sound}
use Rattle.desk_model.specs.Images.{request_in, answer_in}
use Rattle.desk_model.proofs.Changed.{changed_here, changed_else}
use Rattle.desk_model.proofs.Entries.{starts_same, logged_here, logged_else, served_more}
use Rattle.desk_model.proofs.Effects.{NotPicked, sound_staged, sound_called, sound_returned, clock_low}
use Rattle.desk_invariant.specs.Views.{row_place, clock_place, seen_of, owed, after_miss, with_own, after_take}
use Rattle.desk_invariant.specs.Views.{after_return, after_meet, call_slot, answered_word}
use Rattle.desk_model.specs.Limits.{max_objects, max_clients}
use Rattle.desk_invariant.specs.Rule.{row_word, OwnCallAgrees, HeldAgrees, SeatAgrees, CallAt}
use Rattle.desk_invariant.specs.Plays as play
use Rattle.desk_invariant.proofs.Seats.{NotPosted, NotAnswered, IsAnswered, rows_stay, Later, KeepsEnded, row_leaves}
use Rattle.desk_invariant.proofs.Seats.{alike, After, AllowsIn, kept_after, come_after, looks, mine, misses, Rule}
use Rattle.desk_invariant.proofs.Seeing.{all_covered, saw, seen_all}
use Rattle.desk_invariant.proofs.Ties.{tied_row, tied_clock}
use Rattle.desk_model.proofs.Tickets.{all_before}

-- ---- the own call, which is in no hand, goes to another stage

-- What the client has seen of each object has its calls that are over, and of its own call what the log is known to
-- have.
abbrev pub Covers : ℕ → DeskView → List AnyDone → Own → Type 0
Covers client view done call = (x : ℕ)
    → StartsWith (entries_of_client client (seen_of view x)) (served x client done ++ owed x client call)

-- the client goes to the stage, the clock to this number, and these calls are over
module _ (world : World) (clock client : ℕ) (stage : Stage) (dones : ℕ → List AnyDone) where
  abbrev pub gone : World
  gone = record world { clock = clock; stage = changed world.stage client stage; done = dones }

  -- another client keeps what it knows
  pub later_gone : (another : ℕ) → NotPicked (world.stage client) → NotPosted (world.stage client)
      → dones another ≡ world.done another → another ≢ client → Later world gone another
  later_gone another unpicked unposted same other =
      let here = changed_else world.stage client stage another other in
      let own : (o : Own) → OwnCallAgrees o (world.stage another)
      → OwnCallAgrees o (changed world.stage client stage another) =
      λ o e. rw here e in
      let logs : (y : ℕ) → StartsWith (world.log y) (world.log y) = λ y. starts_same (world.log y) in
      assumption (
        λ (q : AnyRequest) (a : AnyAnswer) (e : world.stage another ≡ answered q a). here ∙ e,
        λ (y j : ℕ) (p : AnyRequest) (g : world.holder y ≡ Some another) (h : world.hand y ≡ Some j)
            (e : world.stage j ≡ picked p).
            changed_else world.stage client stage j (λ same. unpicked p (ap world.stage (sym same) ∙ e)) ∙ e,
        λ (j : ℕ) (p : AnyRequest) (g : world.holder p.object ≡ Some another) (e : world.stage j ≡ posted p).
            changed_else world.stage client stage j (λ same. unposted p (ap world.stage (sym same) ∙ e)) ∙ e,
      )

  -- who has ended stays so, if the client has not
  pub gone_leaves : world.ended client ≡ false → ((d : ℕ) → d ≢ client → dones d ≡ world.done d)
      → KeepsEnded world gone
  gone_leaves going same d e =
      let other : d ≢ client = λ f. absurd cc in
      (e, λ i. journal_of (same d other i) (request_of (changed_else world.stage client stage d other i)))

  -- the client holds what it held
  held_gone : (count : ℕ) (holding : Held) → NotPicked (world.stage client) → HeldAgrees count world client holding
      → HeldAgrees count gone client holding
  held_gone count holding unpicked holds = grind (
    arith,
    unpicked,
    λ (r : ℕ) (q : AnyRequest) (e : world.stage r ≡ picked q).
        changed_else world.stage client stage r (λ same. unpicked q (ap world.stage (sym same) ∙ e)) ∙ e,
  )

  -- the client agrees with the world then, if its view is right about its own call and its calls that are over
  pub seat_gone : (kinds : List Kind) (view : DeskView) (call : Own) (done : List AnyDone)
      → NotPicked (world.stage client) → NotPosted (world.stage client) → OwnCallAgrees call stage → done ≡ dones client
      → Covers client view done call → SeatAgrees kinds world client view
      → SeatAgrees kinds gone client (record view { own = call; done = done; ready = false })
  seat_gone kinds view call done unpicked unposted is over covers ok =
      let ready : false ≡ true → IsAnswered (changed world.stage client stage client) = λ e. absurd cc in
      let own : OwnCallAgrees call (changed world.stage client stage client) =
      rw (changed_here world.stage client stage) is in
      let back = rows_stay world client client stage view.back unposted ok.back in
      assumption (held_gone (length kinds) view.held unpicked ok.held)

  -- the same of a client whose row was not answered
  pub seat_unanswered : (kinds : List Kind) (view : DeskView) (call : Own) (done : List AnyDone)
      → NotPicked (world.stage client) → NotPosted (world.stage client) → NotAnswered (world.stage client)
      → OwnCallAgrees call stage → done ≡ dones client
      → Covers client view done call → SeatAgrees kinds world client view
      → SeatAgrees kinds gone client (record view { own = call; done = done })
  seat_unanswered kinds view call done unpicked unposted unanswered is over covers ok =
      let not : view.ready ≡ false =
      false_from_ne_true view.ready (λ e. let (q, a, at) = ok.ready e in unanswered q a at) in
      subst (λ b. SeatAgrees kinds gone client (record view { own = call; done = done; ready = b })) (sym not)
      (seat_gone kinds view call done unpicked unposted is over covers ok)

-- what the client has seen of each object, where its own call is this
pub covers_own : (kinds : List Kind) (world : World) (client : ℕ) (view : DeskView) (call : Own) → view.own ≡ call
    → SeatAgrees kinds world client view → Covers client view view.done call
covers_own kinds world client view call is ok object =
    subst
    (λ o. StartsWith (entries_of_client client (seen_of view object))
    (served object client view.done ++ owed object client o)) is (ok.covers object)

-- What the client has seen of each object has its calls that are over still after its answered call has returned.
covers_returned : (kinds : List Kind) (world : World) (client returned : ℕ) (view : DeskView) (request : AnyRequest)
    (answer : AnyAnswer) → view.own ≡ own.Taken request answer → SeatAgrees kinds world client view
    → Covers client view (view.done ++ record { request = request; answer = answer; returned = returned } ∷ []) own.Idle
covers_returned kinds world client returned view request answer is ok object =
    let calls : List AnyDone =
    view.done ++ record { request = request; answer = answer; returned = returned } ∷ [] in
    let whole = append-nil (served object client calls) ∙ served_more object client returned view.done request answer in
    subst (StartsWith (entries_of_client client (seen_of view object))) (sym whole)
    (covers_own kinds world client view (own.Taken request answer) is ok object)

-- All entries that a client has seen of an object have earlier tickets than the clock.
seen_early : (kinds : List Kind) (quota client object : ℕ) (world : World) (view : DeskView)
    → Sound kinds quota world → SeatAgrees kinds world client view
    → All (λ (y : AnyEntry). y.ticket < world.clock) (seen_of view object)
seen_early kinds quota client object world view sound ok =
    let (more, begins) = ok.seen object in
    all_before (λ (y : AnyEntry). y.ticket < world.clock) (seen_of view object) more
    (subst (All (λ (y : AnyEntry). y.ticket < world.clock)) begins (sound.early object))

module _ {S O R : Type 0} (content : S → Content) (op_in : O → AnyOp) (reply_in : R → AnyReply) (kinds : List Kind)
    (clients quota : ℕ) where
  abbrev DeskRule : State (Slot S O R) DeskView → Type 0
  DeskRule = Rule content op_in reply_in kinds clients quota

  abbrev request_carried : Request O → List (ℕ × Slot S O R) → Request O
  request_carried d ((i, slot.Request q) ∷ ys) = q
  request_carried d ys = d

  -- ---- drawing the ticket of a call

  -- the clock goes on by one
  pub more_by_one : (state : State (Slot S O R) DeskView) (rule : DeskRule state)
      → (get_or state.words clock_place 0 + 1) % 2 ^ 64 ≡ rule.world.clock + 1
  more_by_one state rule =
      let low = clock_low kinds quota rule.world rule.few_calls rule.sound in
      let is = rule.tied.clock in
      omega arith

  -- a client that has no call draws the ticket of the request that it has in hand
  module _ {state : State (Slot S O R) DeskView} (rule : DeskRule state) (id : ℕ) (me : Me (Slot S O R) DeskView)
      (sent : Request O) (is_client : me.0.role ≡ role.Client) (at : get_elem? state.views id ≡ some me.0)
      (is : me.0.own ≡ own.Idle) (going : me.0.ended ≡ false) where
    -- the ticket that is drawn
    abbrev ticket_drawn : ℕ
    ticket_drawn = get_or state.words clock_place 0

    -- the request with its ticket
    abbrev request_drawn : AnyRequest
    request_drawn = request_in op_in (record sent { ticket = ticket_drawn })

    -- The world after the ticket was drawn is as the rule asks.
    after_drawing : sent.object < length kinds → kind_of (op_in sent.op) ≡ kind_at kinds sent.object
        → length me.0.done < quota
        → After rule me.0 (with_own (own.Drawn request_drawn) me.0)
        (set state.words clock_place ((ticket_drawn + 1) % 2 ^ 64)) state.homes
    after_drawing on fits few =
        let world : World = rule.world in
        let client : ℕ = me.0.number in
        let ok = mine rule id is_client at in
        let over = ok.done in
        let was : world.stage client ≡ idle = subst (λ o. OwnCallAgrees o (world.stage client)) is ok.own in
        let few' : calls_made (world.done client) None < quota =
        subst (λ z. calls_made z None < quota) over (omega arith) in
        let stage : Stage = drawn request_drawn in
        let dones : ℕ → List AnyDone = changed world.done client (world.done client) in
        let same : (d : ℕ) → d ≢ client → dones d ≡ world.done d = changed_else world.done client (world.done client) in
        let unpicked : NotPicked (world.stage client) = λ q e. absurd cc in
        let unposted : NotPosted (world.stage client) = λ q e. absurd cc in
        let unanswered : NotAnswered (world.stage client) = λ q a e. absurd cc in
        record {
          world = ticked world client stage (world.done client);
          holders = rule.holders;
          come = come_after clients world client stage (rule.makers.numbers id me.0 at is_client) rule.come;
          sound = sound_called kinds quota world client request_drawn ok.small was few' on fits rule.tied.clock
              rule.sound;
          -- the words and the slots agree with the new world
          tied = tied_clock client ((ticket_drawn + 1) % 2 ^ 64) stage (world.done client) (λ e. absurd (cc))
              (ok.ended ∙ going) (ap row_word was) (λ home. tt) (more_by_one state rule) rule.tied;
          leave = gone_leaves world (world.clock + 1) client stage dones (ok.ended ∙ going) same;
          -- the other clients keep what they know
          others = λ another other. later_gone world (world.clock + 1) client stage dones another unpicked unposted
              (same another other) other;
          -- the own call has its ticket
          own = seat_unanswered world (world.clock + 1) client stage dones kinds me.0 (own.Drawn request_drawn)
              me.0.done unpicked unposted unanswered
              refl (over ∙ sym (changed_here world.done client (world.done client)))
              (covers_own kinds world client me.0 own.Idle is ok) ok;
        }

  -- drawing keeps the rule, where the object of the request is there
  pub draw_keeps_rule : (slots id i : ℕ) (me : Me (Slot S O R) DeskView) (sent : Request O)
      (more : List (ℕ × Slot S O R)) → me.0.role ≡ role.Client
      → me.0.own ≡ own.Idle → me.0.ended ≡ false → me.1 ≡ (i, slot.Request sent) ∷ more
      → sent.object < length kinds → kind_of (op_in sent.op) ≡ kind_at kinds sent.object → length me.0.done < quota
      → Allows DeskRule slots id me clock_place (λ x. (x + 1) % 2 ^ 64)
      (play.draws content op_in reply_in (step slots clock_place 1 0 maybe.none) me)
  draw_keeps_rule slots id i me sent more is_client is going carried on fits few state rule deep at small =
      let found : ℕ = get_or state.words clock_place 0 in
      let view' : DeskView = with_own (own.Drawn (request_in op_in (record sent { ticket = found }))) me.0 in
      let after = after_drawing rule id me sent is_client at is going on fits few in
      let told : play.draws content op_in reply_in (step slots clock_place 1 0 maybe.none) me found (view', me.1) =
      λ i' sent' more' carried'. ap
      (λ (z : Request O). (with_own (own.Drawn (request_in op_in (record z { ticket = found }))) me.0, me.1))
      (ap (request_carried sent) (sym carried ∙ carried')) in
      (view', keeps, tt, kept_after rule id view' at is_client alike after, told)

  -- ---- posting the request

  abbrev pub request_known : AnyRequest → Own → AnyRequest
  request_known d (own.Drawn q) = q
  request_known d (own.Waiting q) = q
  request_known d (own.Taken q a) = q
  request_known d o = d

  -- posting keeps the rule, if the client has drawn the request, and has it in its hands
  pub post_keeps_rule : (slots id client word : ℕ) (me : Me (Slot S O R) DeskView) (request : AnyRequest)
      (sent : Request O) (more : List (ℕ × Slot S O R))
      → me.0.role ≡ role.Client → me.0.number ≡ client → me.0.own ≡ own.Drawn request → me.0.held ≡ held.Free
      → request_in op_in sent ≡ request → word ≡ 1 + request.object
      → me.1 ≡ (call_slot client, slot.Request sent) ∷ more
      → Allows DeskRule slots id me (row_place client) (λ _. word)
      (λ _. play.posts content op_in reply_in (step slots (row_place client) word 0 maybe.none) me word)
  post_keeps_rule slots id client word me request sent more is_client number is free same is_word carried state rule
      deep at small =
      let world : World = rule.world in
      let ok = subst (λ z. SeatAgrees kinds world z me.0) number (mine rule id is_client at) in
      let was : world.stage client ≡ drawn request = subst (λ o. OwnCallAgrees o (world.stage client)) is ok.own in
      let numbered : client < clients = subst (λ z. z < clients) number (rule.makers.numbers id me.0 at is_client) in
      let stage : Stage = posted request in
      let view' : DeskView = with_own (own.Waiting request) me.0 in
      let unpicked : NotPicked (world.stage client) = λ q e. absurd cc in
      let unposted : NotPosted (world.stage client) = λ q e. absurd cc in
      let unanswered : NotAnswered (world.stage client) = λ q a e. absurd cc in
      let after : After rule me.0 view' (set state.words (row_place client) word)
      (set state.homes (call_slot client) (some (slot.Request sent))) =
      record {
        world = staged world client stage;
        holders = rule.holders;
        come = come_after clients world client stage numbered rule.come;
        sound = sound_staged kinds quota world client stage unpicked (λ q e. absurd (cc)) (ap request_of (sym was))
            (λ e. absurd (cc)) (λ y. ap (served_now y client) (sym was)) rule.sound;
        -- the words and the slots agree with the new world
        tied = tied_row client word stage world.hand world.log (some (slot.Request sent)) ok.small (λ y _. refl)
            (λ e. absurd (cc)) (ap request_of (sym was)) is_word (sent, refl, same) rule.tied;
        leave = row_leaves world client stage (ap request_of was);
        -- the other clients keep what they know
        others = λ another other. later_gone world world.clock client stage world.done another unpicked unposted refl
            (λ e. other (e ∙ sym number));
        -- the own call waits
        own = subst (λ z. SeatAgrees kinds (staged world client stage) z view') (sym number)
            (seat_unanswered world world.clock client stage world.done kinds me.0 (own.Waiting request) me.0.done
            unpicked unposted unanswered (inl refl) ok.done
            (covers_own kinds world client me.0 (own.Drawn request) is ok) ok);
      } in
      let told : play.posts content op_in reply_in (step slots (row_place client) word 0 maybe.none) me word
      (view', rest me.1) =
      λ q is'. ap (λ (z : AnyRequest). (with_own (own.Waiting z) me.0, rest me.1))
      (ap (request_known request) (sym is ∙ is')) in
      (view', gives, tt, rw carried (kept_after rule id view' at is_client alike after), told)

  -- ---- looking for the answer, and taking it

  is_answered : (call : Own) (stage : Stage) (request : AnyRequest) → call ≡ own.Waiting request
      → request.object < max_objects → OwnCallAgrees call stage → row_word stage ≡ answered_word
      → (answer : AnyAnswer) × (stage ≡ answered request answer)
  is_answered call stage request is low ok word = grind arith

  -- a client does not know that its row is answered, if its word is another one
  not_ready : (world : World) (client : ℕ) (view : DeskView) → SeatAgrees kinds world client view
      → row_word (world.stage client) ≢ answered_word → view.ready ≡ false
  not_ready world client view ok miss =
      false_from_ne_true view.ready (λ e. let (q, a, at) = ok.ready e in miss (ap row_word at))

  -- what the client has seen of each object, after it has taken the answer with a log that has it
  covers_taken : (world : World) (client : ℕ) (view : DeskView) (request : AnyRequest) (answer : AnyAnswer)
      (log : List AnyEntry) → view.own ≡ own.Waiting request → request.object < length view.seen
      → entries_of_client client log
      ≡ served request.object client view.done ++ logged_on request.object client request answer
      → SeatAgrees kinds world client view
      → Covers client (after_meet request.object log view) view.done (own.Taken request answer)
  covers_taken world client view request answer log is low calls ok =
      let object : ℕ = request.object in
      seen_all
      (λ y z. StartsWith (entries_of_client client z) (served y client view.done ++ logged_on y client request answer))
      view.seen object log low
      ([], calls ∙ sym (append-nil (served object client view.done ++ logged_on object client request answer)))
      (λ y other. subst (λ z. StartsWith (entries_of_client client (seen_of view y)) (served y client view.done ++ z))
      (sym (logged_else y client request answer (λ f. other (sym f))))
      (covers_own kinds world client view (own.Waiting request) is ok y))

  -- a look at the own row keeps the rule, whether there is an answer or not
  pub look_for_answer_keeps_rule : (slots id client : ℕ) (me : Me (Slot S O R) DeskView) → me.0.role ≡ role.Client
      → me.0.number ≡ client → client < max_clients
      → Allows DeskRule slots id me (row_place client) (λ f. f)
      (play.looks_for_answer content op_in reply_in (step slots (row_place client) 0 0 maybe.none) me)
  look_for_answer_keeps_rule slots id client me is_client number few state rule deep at small =
      let world : World = rule.world in
      let found : ℕ = get_or state.words (row_place client) 0 in
      let ok = subst (λ z. SeatAgrees kinds world z me.0) number (mine rule id is_client at) in
      let word : found ≡ row_word (world.stage client) = rule.tied.rows client few in
      let look : Step (Slot S O R) = step slots (row_place client) 0 0 maybe.none in
      dite (ℕ_discrete found answered_word)
      (λ hit.
      let told : play.looks_for_answer content op_in reply_in look me found me =
      λ d q own_row here waiting. ((λ _. refl), λ miss. absurd (miss hit)) in
      (me.0, keeps, tt, looks rule (row_place client) id me.1 is_client at, told))
      (λ miss.
      let view' : DeskView = after_miss (row_place client) me.0 in
      let not : me.0.ready ≡ false = not_ready world client me.0 ok (λ e. miss (word ∙ e)) in
      let told : play.looks_for_answer content op_in reply_in look me found (view', me.1) =
      λ d q own_row here waiting. ((λ hit. absurd (miss hit)), λ _. (refl, not)) in
      (view', keeps, tt, misses rule (row_place client) id me.1 is_client at, told))

  -- what the client is told of the answer that came out of its row, and of the log of its call's object
  record IsTaken (me after : Me (Slot S O R) DeskView) (client : ℕ) (request : AnyRequest) (given : Answer R)
      (log : List AnyEntry) : Type 0 where
    hand : after
        ≡ (after_take request (answer_in reply_in given) log me.0, (call_slot client, slot.Answer given) ∷ me.1)
    legal : IsLegalLog (kind_at me.0.kinds request.object) log
    begins : StartsWith log (seen_of me.0 request.object)
    calls : entries_of_client me.0.number log
        ≡ served request.object me.0.number me.0.done ++ logged me.0.number request (answer_in reply_in given)

  -- a client that waits for the answer to its request tries to take it
  module _ {state : State (Slot S O R) DeskView} (rule : DeskRule state) (slots id : ℕ)
      (me : Me (Slot S O R) DeskView) (request : AnyRequest) (is_client : me.0.role ≡ role.Client)
      (at : get_elem? state.views id ≡ some me.0) (is : me.0.own ≡ own.Waiting request) where
    -- the number of the client
    abbrev client_known : ℕ
    client_known = me.0.number

    -- the word of the client's row
    abbrev found_there : ℕ
    found_there = get_or state.words (row_place client_known) 0

    -- the step of the try
    abbrev try_to_take : Step (Slot S O R)
    try_to_take = step slots (row_place client_known) answered_word 0 maybe.none

    -- the table allows the try in this state
    abbrev MayTake : Type 0
    MayTake = AllowsIn content op_in reply_in kinds clients quota state id me (row_place client_known)
        (λ f. either (eqb f answered_word) 0 f) (play.takes_answer content op_in reply_in try_to_take me)

    -- The word of the client's row is that of its call's stage.
    word_there : found_there ≡ row_word (rule.world.stage client_known)
    word_there = let ok = mine rule id is_client at in rule.tied.rows client_known ok.small

    -- the row has this answer
    module _ (given : Answer R)
        (was : rule.world.stage client_known ≡ answered request (answer_in reply_in given)) where
      -- the log of the request's object
      abbrev log_there : List AnyEntry
      log_there = rule.world.log request.object

      -- the stage of the client's call after the answer was taken
      abbrev stage_taken : Stage
      stage_taken = taken request (answer_in reply_in given)

      -- the client's view after the answer was taken
      abbrev view_taken : DeskView
      view_taken = after_take request (answer_in reply_in given) log_there me.0

      -- the client with its slots after the answer was taken
      abbrev me_taken : Me (Slot S O R) DeskView
      me_taken = (view_taken, (call_slot client_known, slot.Answer given) ∷ me.1)

      -- The request of the client is in no hand, since it is answered.
      not_picked : NotPicked (rule.world.stage client_known)
      not_picked q e = absurd cc

      -- The request of the client is not in its row, since it is answered.
      not_posted : NotPosted (rule.world.stage client_known)
      not_posted q e = absurd cc

      -- The client's own entries in the log are its calls that are over, and this one.
      calls_there : entries_of_client client_known log_there
          ≡ served request.object client_known me.0.done
          ++ logged_on request.object client_known request (answer_in reply_in given)
      calls_there =
          let ok = mine rule id is_client at in
          rule.sound.counted client_known request.object
          ∙ λ i. served request.object client_known (sym ok.done i) ++ served_now request.object client_known (was i)

      -- The client agrees with the world once it has its answer and has seen the log.
      taker_agrees : request.object < max_objects
          → SeatAgrees kinds (staged rule.world client_known stage_taken) client_known view_taken
      taker_agrees low =
          let world : World = rule.world in
          let client : ℕ = client_known in
          let object : ℕ = request.object in
          let ok = mine rule id is_client at in
          let wide = ok.wide_seen in
          let whole = all_covered kinds quota world client object me.0.done me.0.own ok.done ok.own rule.sound in
          let seat : SeatAgrees kinds world client (after_meet object log_there me.0) =
          saw kinds world client object me.0 log_there low (starts_same log_there) whole ok in
          let covers =
          covers_taken world client me.0 request (answer_in reply_in given) log_there is (omega arith) calls_there ok in
          seat_gone world world.clock client stage_taken world.done kinds (after_meet object log_there me.0)
          (own.Taken request (answer_in reply_in given)) me.0.done not_picked not_posted refl ok.done covers seat

      -- The world after the answer was taken is as the rule asks.
      after_taking : request.object < max_objects
          → After rule me.0 view_taken (set state.words (row_place client_known) 0)
          (set state.homes (call_slot client_known) maybe.none)
      after_taking low =
          let world : World = rule.world in
          let client : ℕ = client_known in
          let ok = mine rule id is_client at in
          record {
            world = staged world client stage_taken;
            holders = rule.holders;
            come = come_after clients world client stage_taken (rule.makers.numbers id me.0 at is_client) rule.come;
            sound = sound_staged kinds quota world client stage_taken not_picked (λ q e. absurd (cc))
                (ap request_of (sym was)) (λ e. absurd (cc)) (λ y. ap (served_now y client) (sym was)) rule.sound;
            -- the words and the slots agree with the new world
            tied = tied_row client 0 stage_taken world.hand world.log maybe.none ok.small (λ y _. refl)
                (λ e. absurd (cc)) (ap request_of (sym was)) refl tt rule.tied;
            leave = row_leaves world client stage_taken (ap request_of was);
            -- the other clients keep what they know
            others = λ another other. later_gone world world.clock client stage_taken world.done another not_picked
                not_posted refl other;
            -- the own call has its answer
            own = taker_agrees low;
          }

      -- The client is told of the answer and of the log.
      taken_told : IsTaken me me_taken client_known request given log_there
      taken_told =
          let ok = mine rule id is_client at in
          record {
            hand = refl;
            legal = subst (λ z. IsLegalLog (kind_at z request.object) log_there) (sym ok.kinds_are)
                (rule.sound.legal request.object);
            begins = ok.seen request.object;
            calls = calls_there ∙ ap (λ z. served request.object client_known me.0.done ++ z)
                (logged_here request.object client_known request (answer_in reply_in given) refl);
          }

      -- A hit tells what the step promises, by whichever names the call and the row have, and is no miss.
      hit_told : found_there ≡ answered_word
          → play.takes_answer content op_in reply_in try_to_take me found_there me_taken
      hit_told hit d q own_row here waiting =
          let same : request ≡ q = ap (request_known request) (sym is ∙ waiting) in
          let t = subst (λ (z : ℕ × AnyRequest). IsTaken me me_taken z.0 z.1 given log_there)
          (λ i. (own_row i, same i)) taken_told in
          ((λ _. (given, log_there, t.hand, t.legal, t.begins, t.calls)), λ miss. absurd (miss hit))

      -- The table allows the try if the answer is in its slot.
      may_take : get_elem? state.homes (call_slot client_known) ≡ some (some (slot.Answer given))
          → found_there ≡ answered_word → request.object < max_objects → MayTake
      may_take at_home hit low = (
        view_taken,
        takes (call_slot client_known) (slot.Answer given),
        at_home,
        rw (eq-eqb found_there answered_word hit) (kept_after rule id view_taken at is_client alike (after_taking low)),
        hit_told hit,
      )

    -- At the word of an answer the client takes it.
    take_hits : request.object < max_objects → found_there ≡ answered_word → MayTake
    take_hits low hit =
        let client : ℕ = client_known in
        let ok = mine rule id is_client at in
        let (answer, was) =
        is_answered me.0.own (rule.world.stage client) request is low ok.own (sym word_there ∙ hit) in
        let (given, at_home, image) = subst (CallAt content op_in reply_in (get_elem? state.homes (call_slot client)))
        was (rule.tied.calls client ok.small) in
        let was_given : rule.world.stage client ≡ answered request (answer_in reply_in given) =
        was ∙ ap (answered request) (sym image) in
        may_take given was_given at_home hit low

    -- At another word the client notes a miss.
    take_misses : found_there ≢ answered_word → MayTake
    take_misses miss =
        let client : ℕ = client_known in
        let view' : DeskView = after_miss (row_place client) me.0 in
        let ok = mine rule id is_client at in
        let not : me.0.ready ≡ false = not_ready rule.world client me.0 ok (λ e. miss (word_there ∙ e)) in
        let told : play.takes_answer content op_in reply_in try_to_take me found_there (view', me.1) =
        λ d q own_row here waiting. ((λ hit. absurd (miss hit)), λ _. (refl, not)) in (
          view',
          keeps,
          tt,
          rw (ne_eqb found_there answered_word miss) (misses rule (row_place client) id me.1 is_client at),
          told,
        )

  -- a try to take the answer keeps the rule, while the client holds nothing
  pub take_keeps_rule : (slots id client : ℕ) (me : Me (Slot S O R) DeskView) (request : AnyRequest)
      → me.0.role ≡ role.Client → me.0.number ≡ client
      → me.0.own ≡ own.Waiting request → me.0.held ≡ held.Free → request.object < max_objects → client < max_clients
      → Allows DeskRule slots id me (row_place client) (λ f. either (eqb f answered_word) 0 f)
      (play.takes_answer content op_in reply_in (step slots (row_place client) answered_word 0 maybe.none) me)
  take_keeps_rule slots id client me request is_client number is free low few =
      subst
      (λ z. Allows DeskRule slots id me (row_place z) (λ f. either (eqb f answered_word) 0 f)
      (play.takes_answer content op_in reply_in (step slots (row_place z) answered_word 0 maybe.none) me)) number
      (λ state rule deep at small. dite (ℕ_discrete (get_or state.words (row_place me.0.number) 0) answered_word)
      (take_hits rule slots id me request is_client at is low) (take_misses rule slots id me request is_client at is))

  -- ---- drawing the ticket of the return

  abbrev answer_known : AnyAnswer → Own → AnyAnswer
  answer_known d (own.Taken q a) = a
  answer_known d o = d

  -- drawing the ticket of the return keeps the rule, and then the call is over
  pub return_keeps_rule : (slots id : ℕ) (me : Me (Slot S O R) DeskView) (request : AnyRequest) (answer : AnyAnswer)
      → me.0.role ≡ role.Client → me.0.own ≡ own.Taken request answer → me.0.held ≡ held.Free → me.0.ended ≡ false
      → Allows DeskRule slots id me clock_place (λ x. (x + 1) % 2 ^ 64)
      (play.returns content op_in reply_in (step slots clock_place 1 0 maybe.none) me)
  return_keeps_rule slots id me request answer is_client is free going state rule deep at small =
      let world : World = rule.world in
      let client : ℕ = me.0.number in
      let found : ℕ = get_or state.words clock_place 0 in
      let ok = mine rule id is_client at in
      let was : world.stage client ≡ taken request answer =
      subst (λ o. OwnCallAgrees o (world.stage client)) is ok.own in
      -- one call more is over
      let last : AnyDone = record { request = request; answer = answer; returned = found } in
      let calls : List AnyDone = world.done client ++ last ∷ [] in
      let dones : ℕ → List AnyDone = changed world.done client calls in
      let same : (d : ℕ) → d ≢ client → dones d ≡ world.done d = changed_else world.done client calls in
      let over : me.0.done ++ last ∷ [] ≡ dones client =
      ap (λ z. z ++ last ∷ []) ok.done ∙ sym (changed_here world.done client calls) in
      let view' : DeskView = after_return request answer found me.0 in
      let unpicked : NotPicked (world.stage client) = λ q e. absurd cc in
      let unposted : NotPosted (world.stage client) = λ q e. absurd cc in
      let unanswered : NotAnswered (world.stage client) = λ q a e. absurd cc in
      let covers = covers_returned kinds world client found me.0 request answer is ok in
      let after : After rule me.0 view' (set state.words clock_place ((found + 1) % 2 ^ 64)) state.homes = record {
        world = ticked world client idle calls;
        holders = rule.holders;
        come = come_after clients world client idle (rule.makers.numbers id me.0 at is_client) rule.come;
        sound = sound_returned kinds quota world client found request answer ok.small was rule.tied.clock rule.sound;
        -- the words and the slots agree with the new world
        tied = tied_clock client ((found + 1) % 2 ^ 64) idle calls (λ e. absurd (cc)) (ok.ended ∙ going)
            (ap row_word was) (λ home. tt) (more_by_one state rule) rule.tied;
        leave = gone_leaves world (world.clock + 1) client idle dones (ok.ended ∙ going) same;
        -- the other clients keep what they know
        others = λ another other. later_gone world (world.clock + 1) client idle dones another unpicked unposted
            (same another other) other;
        -- the own call is over
        own = seat_unanswered world (world.clock + 1) client idle dones kinds me.0 own.Idle (me.0.done ++ last ∷ [])
            unpicked unposted unanswered refl over covers ok;
      } in
      let early : All (λ (y : AnyEntry). y.ticket < found) (seen_of me.0 request.object) =
      subst (λ n. All (λ (y : AnyEntry). y.ticket < n) (seen_of me.0 request.object)) (sym rule.tied.clock)
      (seen_early kinds quota client request.object world me.0 rule.sound ok) in
      let told : play.returns content op_in reply_in (step slots clock_place 1 0 maybe.none) me found (view', me.1) =
      λ q a is'.
      let e = sym is ∙ is' in (
        (λ i. (after_return (ap (request_known request) e i) (ap (answer_known answer) e i) found me.0, me.1)),
        subst (λ z. All (λ (y : AnyEntry). y.ticket < found) (seen_of me.0 z.object)) (ap (request_known request) e)
            early,
      ) in
      (view', keeps, tt, kept_after rule id view' at is_client alike after, told)
