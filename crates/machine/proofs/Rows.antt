-- A client's steps on its own row, by the fields of the machine. The fields that the code writes are those that a step
-- of `Kept` writes, under another name of the state.
use Rattle.std.proofs.Common.{◌≡◌, ℕ, ◌+◌, ◌<◌, List, [], ◌∷◌, ◌++◌, length, Option, Some, None, IsSome, true, set}
use Rattle.std.proofs.Common.{◌↔◌, get_or, map, refl, ap, sym, ◌∙◌, subst, arith, slice_get}
use Rattle.std.proofs.lemmas.List.{map-set, length-map, get_or-map, get_or-set_same}
use Rattle.desk_model.specs.declared.Request.{Request}
use Rattle.desk_model.specs.declared.Answer.{Answer}
use Rattle.model.specs.declared.AnyOp.{AnyOp}
use Rattle.model.specs.declared.AnyReply.{AnyReply}
use Rattle.model.specs.declared.Kind.{Kind}
use Rattle.model.specs.declared.Kind.TheVariants.{Queue}
use Rattle.model.specs.Objects.{Content, kind_of, kind_with, next}
use Rattle.recorder.specs.Records.{items_of_each}
use Rattle.desk_model.specs.World as world
use Rattle.desk_model.specs.World.{AnyRequest, AnyAnswer, kind_at, calls_made, logged, Serves, request_of}
use Rattle.desk_model.specs.Transitions.{Step, Takes, MayEnd, HoldsNothing, staged, draw_call, draw_return, post, take}
use Rattle.desk_model.specs.Transitions.{win, release, end, pick, put_back, answer}
use Rattle.desk_model.specs.Images.{request_in, answer_in, entry_in, event_in}
use Rattle.desk_model.specs.declared.LogEntry.{LogEntry}
use Rattle.desk_model.specs.declared.JournalEvent.{JournalEvent}
use Rattle.desk_model.specs.declared.JournalEvent.TheVariants.{Invoked, Returned}
use Rattle.std.specs.declared.vec.Vec.{Vec}
use Rattle.std.specs.declared.alloc.Global.{Global}
use Rattle.std.proofs.Math.ListN as ListN
use Rattle.machine.specs.declared.machine.Machine.TheInside.{Inside}
use Rattle.machine.specs.declared.step.Stage.{Stage}
use Rattle.machine.specs.declared.step.Stage.TheVariants.{Idle, Drawn, Posted, Picked, Answered, Taken}
use Rattle.machine.specs.Machines.{State, IsMachine, clients_of, world_of, state_of, stage_in, stage_of}
use Rattle.machine.specs.Runs.{IsImpossible}
use Rattle.machine.specs.Steps.{CanDo, HasContent, IsInHand, IsGoing, IsPossible, IsStepTaken}
use Rattle.machine.proofs.Kept.{Leaves, staged_now, call_now, return_now, win_now, release_now, end_now, handed_now}
use Rattle.machine.proofs.Kept.{served_now}
use Rattle.machine.proofs.Lists.{map-set_same_at}
use Rattle.machine.proofs.Journals.{items_of-set, items_at, seen_grown}
use Rattle.machine.proofs.Looks.{seen_at, slice_get_read, can_do, can_do_only, has_content}

-- what is not there is nothing
none_of : {A : Type 0} (o : Option A) → (IsSome o → ⊥) → o ≡ None
none_of None never = refl
none_of (Some v) never = absurd (never refl)

-- the state of a machine, by its fields
abbrev pub state_in : {S O R : Type 0} → (S → Content) → (O → AnyOp) → (R → AnyReply) → Inside S O R → State
state_in content op_in reply_in m = state_of content op_in reply_in m.objects.items
    (items_of_each m.logs.items) m.holders.items m.hands.items m.stages.items
    (items_of_each m.journals.items) m.ended.items m.clock m.quota

module _ {O R : Type 0} (op_in : O → AnyOp) (reply_in : R → AnyReply) where
  -- which stages of the code stand for which of the world
  drawn_is : (t : Stage O R) (q : AnyRequest) → stage_of (stage_in op_in reply_in t) ≡ world.drawn q
      → (p : Request O) × (t ≡ Drawn p)
  drawn_is (Drawn p) q e = (p, refl)
  drawn_is t q e = absurd cc

  answered_is : (t : Stage O R) (q : AnyRequest) (a : AnyAnswer)
      → stage_of (stage_in op_in reply_in t) ≡ world.answered q a
      → (p : Request O) × (b : Answer R) × (t ≡ Answered p b)
  answered_is (Answered p b) q a e = (p, b, refl)
  answered_is t q a e = absurd cc

  taken_is : (t : Stage O R) (q : AnyRequest) (a : AnyAnswer)
      → stage_of (stage_in op_in reply_in t) ≡ world.taken q a → (p : Request O) × (b : Answer R) × (t ≡ Taken p b)
  taken_is (Taken p b) q a e = (p, b, refl)
  taken_is t q a e = absurd cc

-- Below, `now` is the machine's state under another name.
module _ {S O R : Type 0} (content : S → Content) (op_in : O → AnyOp) (reply_in : R → AnyReply) (m : Inside S O R)
    (is : IsMachine (map content m.objects.items) (state_in content op_in reply_in m)) {now : State}
    (same : state_in content op_in reply_in m ≡ now) where
  -- the state by the fields
  abbrev fields : State
  fields = state_in content op_in reply_in m

  -- a step of a client to a state is taken
  abbrev pub Took : ℕ → Step → State → Type 0
  Took = Leaves (map content m.objects.items) now

  -- ---- what a look at the fields finds

  -- each client has a journal
  pub journal_there : (client : ℕ) → client < clients_of now → client < length m.journals.items
  journal_there client = rw (← same) (λ low.
      let e : length m.journals.items ≡ length m.stages.items = simp length-map at is.journals in
      let l : client < length m.stages.items = simp length-map at low in
      omega arith)

  -- an object that is there, by what it contains
  object_there : (object : ℕ) (value : S) → object < length fields.kinds → value ≡ get_or m.objects.items object value
      → (slice_get (map content m.objects.items) object ≡ Some (content value))
      × (kind_at fields.kinds object ≡ kind_with (content value))
  object_there object value low read =
      let l : object < length m.objects.items = simp length-map at low in (
        seen_at content m.objects.items object value l read,
        get_or-map (λ z. kind_with (content z)) m.objects.items object value Queue l
            ∙ ap (λ z. kind_with (content z)) (sym read),
      )

  -- whether an object can do an operation is told by what it contains, and it contains what its log leaves
  pub can_do_there : (object : ℕ) {value : S} (op : AnyOp) → object < length now.kinds
      → value ≡ get_or m.objects.items object value → IsSome (next (content value) op) ↔ CanDo now object op
  can_do_there object {value} op = rw (← same) (λ low read. let at = object_there object value low read in
      (can_do is object (content value) op at.0 at.1, can_do_only is object (content value) op at.0 at.1))

  pub content_there : (object : ℕ) {value : S} → object < length now.kinds → value ≡ get_or m.objects.items object value
      → HasContent now object
  content_there object {value} = rw (← same) (λ low read. let at = object_there object value low read in
      has_content is object (content value) at.0 at.1)

  -- what a look at the stage found is the stage in the world
  stage_found : (client : ℕ) {found t : Stage O R} → client < clients_of fields
      → found ≡ get_or m.stages.items client found
      → found ≡ t → (world_of fields).stage client ≡ stage_of (stage_in op_in reply_in t)
  stage_found client {found} there read e =
      let low : client < length m.stages.items = simp length-map at there in
      get_or-map stage_of (map (stage_in op_in reply_in) m.stages.items) client
      (stage_in op_in reply_in found) world.absent (simp length-map low)
      ∙ ap stage_of (get_or-map (stage_in op_in reply_in) m.stages.items client found (stage_in op_in reply_in found)
      low
      ∙ ap (stage_in op_in reply_in) (sym read ∙ e))

  pub stage_is : (client : ℕ) {found : Stage O R} → client < clients_of now → found ≡ get_or m.stages.items client found
      → (world_of now).stage client ≡ stage_of (stage_in op_in reply_in found)
  stage_is client = rw (← same) (λ there read. stage_found client there read refl)

  -- a stage that was written is that of the world
  pub stage_written : (row : ℕ) (t : Stage O R) → row < clients_of now
      → get_or (map stage_of (map (stage_in op_in reply_in) (set m.stages.items row t))) row world.absent
      ≡ stage_of (stage_in op_in reply_in t)
  stage_written row t = rw (← same) (λ low.
      ap (λ us. get_or (map stage_of us) row world.absent) (map-set (stage_in op_in reply_in) m.stages.items row t)
      ∙ ap (λ us. get_or us row world.absent)
      (map-set stage_of (map (stage_in op_in reply_in) m.stages.items) row (stage_in op_in reply_in t))
      ∙ get_or-set_same (map stage_of (map (stage_in op_in reply_in) m.stages.items)) row
      (stage_of (stage_in op_in reply_in t)) world.absent (simp length-map (simp length-map at low)))

  -- ---- objects are won and released, and clients end

  -- a client that won a free object has taken the step
  pub win_done : (client object : ℕ) → IsGoing now client
      → (object < length now.kinds) × ((world_of now).holder object ≡ None)
      → HoldsNothing (world_of now) client
      → Took client (win object) (record fields { holders = set m.holders.items object (Some client) })
  win_done client object = rw (← same) (λ go free. win_now is client go object free.0 free.1)

  -- a client that released its object has taken the step
  pub release_done : (client object : ℕ) → IsGoing now client
      → (object < length now.kinds) × ((world_of now).holder object ≡ Some client)
      → (world_of now).hand object ≡ None
      → Took client release (record fields { holders = set m.holders.items object None })
  release_done client object = rw (← same) (λ go held. release_now is client go object held.0 held.1)

  -- a client that ended has taken the step
  pub end_done : (client : ℕ) → IsGoing now client → MayEnd ((world_of now).stage client)
      → HoldsNothing (world_of now) client → Took client end (record fields { ended = set m.ended.items client true })
  end_done client = rw (← same) (end_now is client)

  -- ---- requests are picked up and put back

  -- the hand of an object and the stage of a row are written
  abbrev pub state_handed : ℕ → Option ℕ → ℕ → Stage O R → State
  state_handed object h row t = record fields
      { hands = set m.hands.items object h; stages = map (stage_in op_in reply_in) (set m.stages.items row t) }

  -- a client that picked up a request has taken the step
  pub pick_done : (client object row : ℕ) (request : Request O) → IsGoing now client
      → (object < length now.kinds) × ((world_of now).holder object ≡ Some client) → (world_of now).hand object ≡ None
      → (row < clients_of now) × ((world_of now).stage row ≡ world.posted (request_in op_in request))
      × (request.object ≡ object) → Took client (pick row) (state_handed object (Some row) row (Picked request))
  pick_done client object row request = rw (← same) (λ go held free asked.
      rw (map-set (stage_in op_in reply_in) m.stages.items row (Picked request))
      (handed_now is client go object (Some row) row (stage_in op_in reply_in (Picked request)) (pick row)
      held.0 asked.0
      (record {
        object = object;
        request = request_in op_in request;
        held = held.1;
        free = free;
        was = asked.1;
        for_object = asked.2;
        after = refl;
      }) (sym (ap request_of asked.1))))

  -- a client that put a request back has taken the step
  pub put_back_done : (client : ℕ) {object row : ℕ} (request : Request O) → IsGoing now client
      → IsInHand now client object row (request_in op_in request)
      → HasContent now object → (CanDo now object (op_in request.op) → ⊥)
      → Took client put_back (state_handed object None row (Posted request))
  put_back_done client {object} {row} request = rw (← same) (λ go h k never.
      rw (map-set (stage_in op_in reply_in) m.stages.items row (Posted request))
      (handed_now is client go object None row (stage_in op_in reply_in (Posted request)) put_back h.object h.row
      (record {
        object = object;
        row = row;
        request = request_in op_in request;
        content = k.0;
        in_hand = (h.held, h.hand, h.stage, k.1);
        impossible = none_of (next k.0 (op_in request.op)) (λ can. never (k.0, k.1, can));
        after = refl;
      }) (sym (ap request_of h.stage))))

  -- ---- the steps that draw a ticket

  -- a ticket was drawn: the fields then
  abbrev pub state_ticked : ℕ → List (List (JournalEvent O R)) → Stage O R → ℕ → State
  state_ticked client js t n = record fields {
    clock = n;
    stages = map (stage_in op_in reply_in) (set m.stages.items client t);
    journals = map (map (event_in op_in reply_in)) js;
  }

  -- the journals of the fields, with one event more of a client
  abbrev with_event : ℕ → JournalEvent O R → List (List (JournalEvent O R))
  with_event client e =
      set (items_of_each m.journals.items) client (get_or (items_of_each m.journals.items) client [] ++ e ∷ [])

  -- the journals are as they were
  pub unticked : {js : List (List (JournalEvent O R))} → js ≡ items_of_each m.journals.items
      → record fields { journals = map (map (event_in op_in reply_in)) js } ≡ now
  unticked e = (λ i. record fields { journals = map (map (event_in op_in reply_in)) (e i) }) ∙ same

  -- a client that drew the ticket of a call has taken the step
  pub call_done : (client object : ℕ) (op : O) {js : List (List (JournalEvent O R))} {n : ℕ} {k : Kind}
      → js ≡ with_event client (Invoked m.clock object op) → n ≡ now.clock + 1 → IsGoing now client
      → ((world_of now).stage client ≡ world.idle) × (calls_made ((world_of now).done client) None < now.quota)
      → k ≡ kind_of (op_in op) → (object < length now.kinds) × (k ≡ kind_at now.kinds object)
      → Took client (draw_call object (op_in op))
      (state_ticked client js (Drawn (record { object = object; ticket = m.clock; op = op })) n)
  call_done client object op grew = let t : Stage O R = Drawn (record { object = object; ticket = m.clock; op = op }) in
      rw (← same) (λ one go idle kind there. rw (
        grew,
        one,
        map-set (stage_in op_in reply_in) m.stages.items client t,
        seen_grown (event_in op_in reply_in) (items_of_each m.journals.items) client (Invoked m.clock object op),
      ) (call_now is client go object (op_in op) idle.0 idle.1 there.0 (sym kind ∙ there.1)))

  -- a client that drew the ticket of its return has taken the step
  pub return_done : (client : ℕ) {request : Request O} {given : Answer R} {js : List (List (JournalEvent O R))} {n : ℕ}
      {found : Stage O R} → js ≡ with_event client (Returned m.clock given) → n ≡ now.clock + 1 → IsGoing now client
      → found ≡ get_or m.stages.items client found → found ≡ Taken request given
      → Took client draw_return (state_ticked client js Idle n)
  return_done client {request} {given} grew = rw (← same) (λ one go read e. rw (
    grew,
    one,
    map-set (stage_in op_in reply_in) m.stages.items client Idle,
    seen_grown (event_in op_in reply_in) (items_of_each m.journals.items) client (Returned m.clock given),
  ) (return_now is client go (request_in op_in request) (answer_in reply_in given) (stage_found client go.0 read e)))

  -- so these steps are possible
  pub call_possible : (client object : ℕ) (op : O) {k : Kind} → IsGoing now client
      → ((world_of now).stage client ≡ world.idle) × (calls_made ((world_of now).done client) None < now.quota)
      → k ≡ kind_of (op_in op) → (object < length now.kinds) × (k ≡ kind_at now.kinds object)
      → IsPossible now client (draw_call object (op_in op))
  call_possible client object op go idle kind there =
      (_, (call_done client object op refl refl go idle kind there).1.moves)

  pub return_possible : (client : ℕ) {request : Request O} {given : Answer R} {found : Stage O R} → IsGoing now client
      → found ≡ get_or m.stages.items client found → found ≡ Taken request given → IsPossible now client draw_return
  return_possible client go read e = (_, (return_done client refl refl go read e).1.moves)

  -- ---- the answer to the request in hand

  -- the fields once the request in hand is answered
  abbrev pub state_answered : ℕ → ℕ → S → Vec (LogEntry O R) Global → Stage O R → State
  state_answered object row o l t = state_of content op_in reply_in (set m.objects.items object o)
      (items_of_each (set m.logs.items object l)) m.holders.items (set m.hands.items object None)
      (set m.stages.items row t) (items_of_each m.journals.items) m.ended.items m.clock
      m.quota

  -- the fields that an answer writes are those that the transition writes
  answered_alike : (object row : ℕ) (old new : S) (was log : Vec (LogEntry O R) Global) (request : Request O)
      (given : Answer R) → object < length m.objects.items
      → old ≡ get_or m.objects.items object old → kind_with (content new) ≡ kind_with (content old)
      → object < length m.logs.items → was ≡ get_or m.logs.items object was
      → map (entry_in op_in reply_in) log.items
      ≡ map (entry_in op_in reply_in) was.items ++ logged row (request_in op_in request) (answer_in reply_in given)
      → record fields {
        logs = set (map (map (entry_in op_in reply_in)) (items_of_each m.logs.items)) object
            (get_or (map (map (entry_in op_in reply_in)) (items_of_each m.logs.items)) object []
            ++ logged row (request_in op_in request) (answer_in reply_in given));
        hands = set m.hands.items object None;
        stages = set (map (stage_in op_in reply_in) m.stages.items) row
            (stage_in op_in reply_in (Answered request given));
      } ≡ state_answered object row new log (Answered request given)
  answered_alike object row old new was log request given low read kind there looked grew = λ i. record fields {
    kinds = sym (map-set_same_at (λ z. kind_with (content z)) m.objects.items object new old
        (slice_get_read m.objects.items object old low read) kind) i;
    logs = sym (ap (map (map (entry_in op_in reply_in))) (items_of-set m.logs.items object log)
        ∙ map-set (map (entry_in op_in reply_in)) (items_of_each m.logs.items) object log.items
        ∙ ap (set (map (map (entry_in op_in reply_in)) (items_of_each m.logs.items)) object)
        (grew ∙ ap (λ es. es ++ logged row (request_in op_in request) (answer_in reply_in given))
        (sym (ListN.get_or-map (map (entry_in op_in reply_in)) (items_of_each m.logs.items) object []
        ∙ ap (map (entry_in op_in reply_in)) (items_at m.logs.items object was there looked))))) i;
    hands = set m.hands.items object None;
    stages = sym (map-set (stage_in op_in reply_in) m.stages.items row (Answered request given)) i;
  }

  -- a client that answered the request in its hand has taken the step
  pub answer_done : (client : ℕ) {object row : ℕ} (request : Request O) {old : S} (new : S)
      {was : Vec (LogEntry O R) Global} (log : Vec (LogEntry O R) Global) (given : Answer R)
      → old ≡ get_or m.objects.items object old → was ≡ get_or m.logs.items object was
      → map (entry_in op_in reply_in) log.items
      ≡ map (entry_in op_in reply_in) was.items ++ logged row (request_in op_in request) (answer_in reply_in given)
      → Serves (content old) (op_in request.op) (answer_in reply_in given) (content new)
      → kind_with (content new) ≡ kind_with (content old) → CanDo now object (op_in request.op)
      → IsGoing now client → IsInHand now client object row (request_in op_in request)
      → IsMachine (map content (set m.objects.items object new))
      (state_answered object row new log (Answered request given))
      × IsStepTaken now client answer (state_answered object row new log (Answered request given))
  answer_done client {object} {row} request {old} new {was} log given read looked grew serves kind =
      rw (← same) (λ can go h.
      let low : object < length m.objects.items = simp length-map at h.object in
      let logs_long : length m.logs.items ≡ length m.objects.items = simp length-map at is.logs in
      let at = object_there object old h.object read in
      subst (λ (z : List Content). Leaves z fields client answer
      (state_answered object row new log (Answered request given)))
      (sym (map-set content m.objects.items object new))
      (subst (Leaves (set (map content m.objects.items) object (content new)) fields client answer)
      (answered_alike object row old new was log request given low read kind (omega arith) looked grew)
      (served_now is client go object row (request_in op_in request) (content old) (content new)
      (answer_in reply_in given) at.0
      h.object h.row at.1 kind h.held h.hand h.stage
      (can_do_only is object (content old) (op_in request.op) at.0 at.1 can) serves)))

  -- ---- the steps that write a stage alone, and those that are impossible

  -- with another stage of a client
  abbrev state_staged : ℕ → Stage O R → State
  state_staged client t = record fields { stages = map (stage_in op_in reply_in) (set m.stages.items client t) }

  staged_inside : (client : ℕ) → IsGoing fields client → (t : Stage O R) (w : Step)
      → Takes fields.kinds fields.quota w (world_of fields) client
      (staged (world_of fields) client (stage_of (stage_in op_in reply_in t)))
      → request_of (stage_of (stage_in op_in reply_in t)) ≡ request_of ((world_of fields).stage client)
      → Leaves (map content m.objects.items) fields client w (state_staged client t)
  staged_inside client go t w takes alike = rw (map-set (stage_in op_in reply_in) m.stages.items client t)
      (staged_now is client go (stage_in op_in reply_in t) w takes alike)

  -- post: taken from a drawn stage, and from no other
  pub post_taken : (client : ℕ) {request : Request O} {found : Stage O R} → IsGoing now client
      → found ≡ get_or m.stages.items client found → found ≡ Drawn request
      → Took client post (state_staged client (Posted request))
  post_taken client {request} = rw (← same) (λ go read e. let at = stage_found client go.0 read e in
      staged_inside client go (Posted request) post
      (record { request = request_in op_in request; was = at; after = refl })
      (sym (ap request_of at)))

  -- take: from an answered stage, and from no other
  pub take_taken : (client : ℕ) {request : Request O} {given : Answer R} {found : Stage O R} → IsGoing now client
      → found ≡ get_or m.stages.items client found → found ≡ Answered request given
      → Took client take (state_staged client (Taken request given))
  take_taken client {request} {given} = rw (← same) (λ go read e. let at = stage_found client go.0 read e in
      staged_inside client go (Taken request given) take
      (record { request = request_in op_in request; given = answer_in reply_in given; was = at; after = refl })
      (sym (ap request_of at)))

  module _ (client : ℕ) {found : Stage O R} (go : IsGoing now client)
      (read : found ≡ get_or m.stages.items client found) where
    -- a client without a drawn request cannot post
    pub post_not : ((request : Request O) → found ≡ Drawn request → ⊥)
        → IsImpossible now.kinds now.quota (world_of now) (client, post)
    post_not other after h =
        let p = drawn_is op_in reply_in found h.3.request (sym (stage_is client go.0 read) ∙ h.3.was) in other p.0 p.1

    -- a client without an answer cannot take one
    pub take_not : ((request : Request O) (given : Answer R) → found ≡ Answered request given → ⊥)
        → IsImpossible now.kinds now.quota (world_of now) (client, take)
    take_not other after h =
        let p = answered_is op_in reply_in found h.3.request h.3.given (sym (stage_is client go.0 read) ∙ h.3.was) in
        other p.0 p.1 p.2

    -- a client that has not taken an answer cannot draw the ticket of a return
    pub return_not : ((request : Request O) (given : Answer R) → found ≡ Taken request given → ⊥)
        → IsImpossible now.kinds now.quota (world_of now) (client, draw_return)
    return_not other after h =
        let p = taken_is op_in reply_in found h.3.request h.3.given (sym (stage_is client go.0 read) ∙ h.3.was) in
        other p.0 p.1 p.2
