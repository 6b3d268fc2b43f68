-- A transition of the machine's world leaves a machine. Each step writes some fields, and the others stay; the run that
-- led to the world has one transition more (`kept`).
use Rattle.std.proofs.Common.{◌≡◌, ◌≢◌, ℕ, zero, suc, ◌+◌, ◌<◌, List, [], ◌∷◌, ◌++◌, length, Option, Some, None, IsSome}
use Rattle.std.proofs.Common.{true, set, get_or, map, refl, ap, sym, ◌∙◌, subst, arith, slice_get}
use Rattle.std.proofs.lemmas.List.{length-set, get_or-set_same, get_or-set_other}
use Rattle.model.specs.declared.Kind.{Kind}
use Rattle.std.proofs.lemmas.Option.{same_Some}
use mathlib.Core.Logic.{dite}
use native.Mathlib.Decide.{ℕ_discrete}
use Rattle.model.specs.Objects.{Content, empty, next, kind_of, kind_with}
use Rattle.desk_model.specs.World as world
use Rattle.model.specs.declared.AnyOp.{AnyOp}
use Rattle.desk_model.specs.declared.JournalEvent.TheVariants.{Returned}
use Rattle.desk_model.specs.World.{AnyRequest, AnyAnswer, AnyDone, AnyEvent, World, Stage, kind_at, logged}
use Rattle.desk_model.specs.World.{Serves, request_of, invoked, calls_made, journal_of, journal_in, Replays}
use Rattle.desk_model.specs.Transitions.{Step, Takes, Transition, MayEnd, HoldsNothing, changed, staged, ticked}
use Rattle.desk_model.specs.Transitions.{held_by, handed, served_by, draw_call, draw_return, answer, win, release, end}
use Rattle.desk_model.proofs.Changed.{changed_here, changed_else, changed_all}
use Rattle.machine.specs.declared.step.Stage.TheVariants.{Idle, Drawn, Answered}
use Rattle.machine.specs.Machines.{State, AnyStage, HasRun, IsMachine, clients_of, world_of, stage_of, done_in}
use Rattle.machine.specs.Runs.{Leads, IsWorldOfRun}
use Rattle.machine.specs.Steps.{IsGoing, IsStepTaken}
use Rattle.desk_model.proofs.Entries.{replays_more}
use Rattle.machine.proofs.Lists.{get_or-set, slice_get-set_same, slice_get-set_other, map-set_same_at}
use Rattle.machine.proofs.States.{world-staged, world-ticked, world-held, world-handed, world-served, world-ended}
use Rattle.machine.proofs.Journals.{done_in-journal_of, journal_called, journal_returned}

-- ---- runs that are one transition longer

-- steps that lead to a world, and a transition from it, lead on
leads_more : (kinds : List Kind) (quota : ℕ) (start : World) (steps : List (ℕ × Step)) (last : ℕ × Step)
    (between after : World) → Leads kinds quota start steps between → Transition kinds quota last.1 between last.0 after
    → Leads kinds quota start (steps ++ last ∷ []) after
leads_more kinds quota start [] last between after leads moves =
    (after, subst (λ z. Transition kinds quota last.1 z last.0 after) leads moves, refl)
leads_more kinds quota start (first ∷ rest) last between after leads moves =
    (leads.0, leads.1, leads_more kinds quota leads.0 rest last between after leads.2 moves)

-- one more transition of a run
pub run_more : (kinds : List Kind) (n quota : ℕ) (step : Step) (before after : World) (client : ℕ)
    → IsWorldOfRun kinds n quota before → Transition kinds quota step before client after
    → IsWorldOfRun kinds n quota after
run_more kinds n quota step before after client run moves =
    (run.0 ++ (client, step) ∷ [], leads_more kinds quota _ run.0 (client, step) before after run.1 moves)

-- a step of a machine is one
pub run_taken : (state after : State) (client : ℕ) (step : Step) → HasRun state → IsStepTaken state client step after
    → HasRun after
run_taken state after client step run taken = rw (taken.kinds, taken.clients, taken.quota)
    (run_more state.kinds (clients_of state) state.quota step (world_of state) (world_of after) client run taken.moves)

-- a client that is there has come
named : (t : AnyStage) → stage_of t ≢ world.absent
named t e = grind arith

is_there : (ts : List AnyStage) (c : ℕ) → c < length ts → get_or (map stage_of ts) c world.absent ≢ world.absent
is_there [] c low e = absurd (omega arith)
is_there (t ∷ ts) zero low e = named t e
is_there (t ∷ ts) (suc c) low e = is_there ts c (omega arith) e

-- ---- what a step has to keep

-- what no step changes
pub record IsLike (s s' : State) : Type 0 where
  pub kinds : s'.kinds ≡ s.kinds
  pub quota : s'.quota ≡ s.quota
  pub logs : length s'.logs ≡ length s.logs
  pub holders : length s'.holders ≡ length s.holders
  pub hands : length s'.hands ≡ length s.hands
  pub stages : length s'.stages ≡ length s.stages
  pub journals : length s'.journals ≡ length s.journals
  pub ended : length s'.ended ≡ length s.ended

-- what a machine's contents, logs, journals and holders have to keep
pub record Keeps (contents : List Content) (s : State) : Type 0 where
  pub kinds : s.kinds ≡ map kind_with contents
  pub fits : (x : ℕ) (c : Content) → slice_get contents x ≡ Some c
      → Replays (empty (kind_with c)) (get_or s.logs x []) c
  pub journals_are : (c : ℕ) → get_or s.journals c [] ≡ journal_in (world_of s) c
  pub single : (c x y : ℕ) → get_or s.holders x None ≡ Some c → get_or s.holders y None ≡ Some c → x ≡ y

-- the step w of c leads from s to s', which is a machine
abbrev pub Leaves : List Content → State → ℕ → Step → State → Type 0
Leaves contents s c w s' = IsMachine contents s' × IsStepTaken s c w s'

module _ {contents : List Content} {s : State} (m : IsMachine contents s) (c : ℕ) (go : IsGoing s c) where
  -- what a client that is going takes is a transition
  moves_on : (step : Step) (after : World) → Takes s.kinds s.quota step (world_of s) c after
      → Transition s.kinds s.quota step (world_of s) c after
  moves_on step after takes =
      let low = go.0 in
      let few = m.few_clients in
      (omega arith, go.1, is_there s.stages c low, takes)

  kept : (step : Step) {contents' : List Content} {s' : State} {after : World} → world_of s' ≡ after
      → Takes s.kinds s.quota step (world_of s) c after → IsLike s s' → Keeps contents' s'
      → Leaves contents' s c step s'
  kept step {contents'} {s'} is takes like keeps =
      let moved : Transition s.kinds s.quota step (world_of s) c (world_of s') = rw is (moves_on step _ takes) in
      let same_kinds : length s'.kinds ≡ length s.kinds = ap (λ (ks : List Kind). length ks) like.kinds in
      let run = run_more s.kinds (clients_of s) s.quota step (world_of s) (world_of s') c m.run moved in (
        record {
          kinds = keeps.kinds;
          logs = like.logs ∙ m.logs ∙ sym same_kinds;
          holders = like.holders ∙ m.holders ∙ sym same_kinds;
          hands = like.hands ∙ m.hands ∙ sym same_kinds;
          journals = like.journals ∙ m.journals ∙ sym like.stages;
          ended = like.ended ∙ m.ended ∙ sym like.stages;
          few_objects = rw same_kinds m.few_objects;
          few_clients = rw like.stages m.few_clients;
          few_calls = rw like.quota m.few_calls;
          fits = keeps.fits;
          journals_are = keeps.journals_are;
          single = keeps.single;
          run = rw (like.kinds, like.quota, like.stages) run;
        },
        record { moves = moved; kinds = like.kinds; clients = like.stages; quota = like.quota },
      )

  -- Where only the stage of one row is written, and its request stays, the journals are those of the world.
  journals_stay : (s' : State) (row : ℕ) (t : Stage) → (world_of s').stage ≡ changed (world_of s).stage row t
      → request_of t ≡ request_of ((world_of s).stage row) → (j : ℕ)
      → get_or s.journals j [] ≡ journal_of (done_in (get_or s.journals j [])) (request_of ((world_of s').stage j))
  journals_stay s' row t is same j = m.journals_are j ∙ ap (journal_of (done_in (get_or s.journals j [])))
      (changed_all (λ k v. request_of ((world_of s).stage k) ≡ request_of v) (world_of s).stage row t (sym same)
      (λ k _. refl) j ∙ ap (λ (f : ℕ → Stage). request_of (f j)) (sym is))

  -- ---- the steps that write a stage, a holder or an end

  -- A client only goes to another stage, with the same request.
  pub staged_now : (t : AnyStage) (step : Step)
      → Takes s.kinds s.quota step (world_of s) c (staged (world_of s) c (stage_of t))
      → request_of (stage_of t) ≡ request_of ((world_of s).stage c)
      → Leaves contents s c step (record s { stages = set s.stages c t })
  staged_now t step takes same =
      let is = world-staged s c t go.0 in kept step is takes (assumption (length-set s.stages c t)) (record {
        kinds = m.kinds;
        fits = m.fits;
        single = m.single;
        journals_are =
            journals_stay (record s { stages = set s.stages c t }) c (stage_of t) (ap (λ (z : World). z.stage) is) same;
      })

  -- An object goes to another holder, or to none.
  pub held_now : (object : ℕ) (holder : Option ℕ) (step : Step) → object < length s.holders
      → Takes s.kinds s.quota step (world_of s) c (held_by (world_of s) object holder)
      → ((d y z : ℕ) → changed (λ k. get_or s.holders k None) object holder y ≡ Some d
      → changed (λ k. get_or s.holders k None) object holder z ≡ Some d → y ≡ z)
      → Leaves contents s c step (record s { holders = set s.holders object holder })
  held_now object holder step low takes single =
      kept step (world-held s object holder low) takes (assumption (length-set s.holders object holder)) (record {
        kinds = m.kinds;
        fits = m.fits;
        journals_are = m.journals_are;
        single = λ d y z a b. single d y z (sym (get_or-set s.holders object holder None low y) ∙ a)
            (sym (get_or-set s.holders object holder None low z) ∙ b);
      })

  pub win_now : (object : ℕ) → object < length s.kinds → (world_of s).holder object ≡ None → HoldsNothing (world_of s) c
      → Leaves contents s c (win object) (record s { holders = set s.holders object (Some c) })
  win_now object low free nothing = let e = m.holders in held_now object (Some c) (win object) (omega arith)
      (record { on_object = low; free = free; holds_nothing = nothing; after = refl }) single
    where
      f : ℕ → Option ℕ
      f k = get_or s.holders k None

      single : (d y z : ℕ) → changed f object (Some c) y ≡ Some d → changed f object (Some c) z ≡ Some d → y ≡ z
      single d y z a b = grind (
        arith,
        changed_here f object (Some c),
        changed_else f object (Some c) y,
        changed_else f object (Some c) z,
        nothing y,
        nothing z,
        m.single d y z,
      )

  pub release_now : (object : ℕ) → object < length s.kinds → (world_of s).holder object ≡ Some c
      → (world_of s).hand object ≡ None → Leaves contents s c release (record s { holders = set s.holders object None })
  release_now object low held hand = let e = m.holders in held_now object None release (omega arith)
      (record { object = object; held = held; free = hand; after = refl }) single
    where
      f : ℕ → Option ℕ
      f k = get_or s.holders k None

      single : (d y z : ℕ) → changed f object None y ≡ Some d → changed f object None z ≡ Some d → y ≡ z
      single d y z a b =
          grind (
            arith,
            changed_here f object None,
            changed_else f object None y,
            changed_else f object None z,
            m.single d y z,
          )

  pub end_now : MayEnd ((world_of s).stage c) → HoldsNothing (world_of s) c
      → Leaves contents s c end (record s { ended = set s.ended c true })
  end_now may nothing =
      let low = go.0 in
      let long = m.ended in
      kept end (world-ended s c (omega arith)) (record { may_end = may; holds_nothing = nothing; after = refl })
      (assumption (length-set s.ended c true)) assumption

  -- ---- the steps that draw a ticket

  -- what a draw leaves: each journal is that of the world
  ticked_now : (t : AnyStage) (js : List AnyEvent) (step : Step)
      → Takes s.kinds s.quota step (world_of s) c (ticked (world_of s) c (stage_of t) (done_in js))
      → js ≡ journal_of (done_in js) (request_of (stage_of t))
      → Leaves contents s c step
      (record s { clock = s.clock + 1; stages = set s.stages c t; journals = set s.journals c js })
  ticked_now t js step takes here =
      let s' : State = record s { clock = s.clock + 1; stages = set s.stages c t; journals = set s.journals c js } in
      let low = go.0 in
      let long = m.journals in
      let within : c < length s.journals = omega arith in
      let is : world_of s' ≡ ticked (world_of s) c (stage_of t) (done_in js) = world-ticked s c t js go.0 within in
      kept step is takes (assumption (length-set s.stages c t, length-set s.journals c js))
      (record { kinds = m.kinds; fits = m.fits; single = m.single; journals_are = λ j. each s' is within j })
    where
      IsOwn : List AnyEvent → Stage → Type 0
      IsOwn js t = js ≡ journal_of (done_in js) (request_of t)

      each : (s' : State) → world_of s' ≡ ticked (world_of s) c (stage_of t) (done_in js) → c < length s.journals
          → (j : ℕ) → IsOwn (get_or (set s.journals c js) j []) ((world_of s').stage j)
      each s' is within j =
          subst (λ (z : World). IsOwn (get_or (set s.journals c js) j []) (z.stage j)) (sym is) (dite (ℕ_discrete j c)
          (λ same. rw (same, get_or-set_same s.journals c js [] within, changed_here (world_of s).stage c (stage_of t))
          here)
          (λ other. rw (
            get_or-set_other s.journals c j js [] other,
            changed_else (world_of s).stage c (stage_of t) j other,
          ) (m.journals_are j)))

  pub call_now : (object : ℕ) (op : AnyOp) → (world_of s).stage c ≡ world.idle
      → calls_made ((world_of s).done c) None < s.quota → object < length s.kinds → kind_of op ≡ kind_at s.kinds object
      → let request : AnyRequest = record { object = object; ticket = s.clock; op = op } in
      let s' : State = record s {
        clock = s.clock + 1;
        stages = set s.stages c (Drawn request);
        journals = set s.journals c (get_or s.journals c [] ++ invoked request ∷ []);
      } in
      Leaves contents s c (draw_call object op) s'
  call_now object op idle few low kind =
      let request : AnyRequest = record { object = object; ticket = s.clock; op = op } in
      let ds : List AnyDone = (world_of s).done c in
      let js : List AnyEvent = get_or s.journals c [] ++ invoked request ∷ [] in
      let whole : js ≡ journal_of ds (Some request) =
      ap (λ es. es ++ invoked request ∷ []) (m.journals_are c ∙ ap (λ t. journal_of ds (request_of t)) idle)
      ∙ journal_called ds request in
      let over : done_in js ≡ ds = ap done_in whole ∙ done_in-journal_of ds (Some request) in
      ticked_now (Drawn request) js (draw_call object op)
      (record {
        was = idle;
        calls_left = few;
        on_object = low;
        of_kind = kind;
        after = ap (ticked (world_of s) c (world.drawn request)) over;
      }) (whole ∙ ap (λ z. journal_of z (Some request)) (sym over))

  pub return_now : (request : AnyRequest) (given : AnyAnswer) → (world_of s).stage c ≡ world.taken request given
      → let s' : State = record s {
        clock = s.clock + 1;
        stages = set s.stages c Idle;
        journals = set s.journals c (get_or s.journals c [] ++ Returned s.clock given ∷ []);
      } in
      Leaves contents s c draw_return s'
  return_now request given taken =
      let ds : List AnyDone = (world_of s).done c in
      let es : List AnyDone = ds ++ record { request = request; answer = given; returned = s.clock } ∷ [] in
      let js : List AnyEvent = get_or s.journals c [] ++ Returned s.clock given ∷ [] in
      let whole : js ≡ journal_of es None =
      ap (λ es. es ++ Returned s.clock given ∷ []) (m.journals_are c ∙ ap (λ t. journal_of ds (request_of t)) taken)
      ∙ journal_returned ds request given s.clock in
      let over : done_in js ≡ es = ap done_in whole ∙ done_in-journal_of es None in
      ticked_now Idle js draw_return
      (record { request = request; given = given; was = taken; after = ap (ticked (world_of s) c world.idle) over })
      (whole ∙ ap (λ z. journal_of z None) (sym over))

  -- ---- picking a request up, putting it back and answering it

  -- A request is picked up or put back.
  pub handed_now : (object : ℕ) (hand : Option ℕ) (row : ℕ) (t : AnyStage) (step : Step) → object < length s.kinds
      → row < length s.stages
      → Takes s.kinds s.quota step (world_of s) c (handed (world_of s) object hand row (stage_of t))
      → request_of (stage_of t) ≡ request_of ((world_of s).stage row)
      → Leaves contents s c step (record s { hands = set s.hands object hand; stages = set s.stages row t })
  handed_now object hand row t step low within takes same =
      let s' : State = record s { hands = set s.hands object hand; stages = set s.stages row t } in
      let long = m.hands in
      let is = world-handed s object hand row t (omega arith) within in
      kept step is takes (assumption (length-set s.hands object hand, length-set s.stages row t)) (record {
        kinds = m.kinds;
        fits = m.fits;
        single = m.single;
        journals_are = journals_stay s' row (stage_of t) (ap (λ (z : World). z.stage) is) same;
      })

  -- The client answers the request in hand: the object contains what the operation leaves, and the log has the answer.
  pub served_now : (object row : ℕ) (request : AnyRequest) (before after : Content) (given : AnyAnswer)
      → slice_get contents object ≡ Some before → object < length s.kinds
      → row < length s.stages → kind_at s.kinds object ≡ kind_with before → kind_with after ≡ kind_with before
      → (world_of s).holder object ≡ Some c → (world_of s).hand object ≡ Some row
      → (world_of s).stage row ≡ world.picked request
      → IsSome (next before request.op) → Serves before request.op given after
      → let s' : State = record s {
        logs = set s.logs object (get_or s.logs object [] ++ logged row request given);
        hands = set s.hands object None;
        stages = set s.stages row (Answered request given);
      } in
      Leaves (set contents object after) s c answer s'
  served_now object row request before after given at low within kind same held hand stage can serves =
      let s' : State = record s {
        logs = set s.logs object (get_or s.logs object [] ++ logged row request given);
        hands = set s.hands object None;
        stages = set s.stages row (Answered request given);
      } in
      let hands_long = m.hands in
      let logs_long = m.logs in
      let there : object < length s.logs = omega arith in
      -- the new world is that of an answered request
      let is : world_of s' ≡ served_by (world_of s) object row request given =
      world-served s object row request given (omega arith) there within in
      -- the log of the object replays to what it contains
      let replays : Replays (empty (kind_at s.kinds object)) (get_or s.logs object []) before =
      subst (λ (k : Kind). Replays (empty k) (get_or s.logs object []) before) (sym kind) (m.fits object before at) in
      kept answer is
      -- the step is an answer to the request in hand
      (record {
        object = object;
        row = row;
        request = request;
        content = before;
        left = after;
        given = given;
        in_hand = (held, hand, stage, replays);
        possible = can;
        serves = serves;
        after = refl;
      })
      (assumption (
        length-set s.logs object (get_or s.logs object [] ++ logged row request given),
        length-set s.hands object None,
        length-set s.stages row (Answered request given),
      ))
      -- the new state keeps what a machine has to keep
      (record {
        kinds = m.kinds ∙ sym (map-set_same_at kind_with contents object after before at same);
        fits = fits_served object row request before after given at there kind same
            (replays_more (empty (kind_with before)) before after (get_or s.logs object []) row request given
            (m.fits object before at) serves);
        single = m.single;
        journals_are = journals_stay s' row (world.answered request given) (ap (λ (z : World). z.stage) is)
            (ap request_of (sym stage));
      })
    where
      fits_served : (object row : ℕ) (request : AnyRequest) (before after : Content) (given : AnyAnswer)
          → slice_get contents object ≡ Some before → object < length s.logs
          → kind_at s.kinds object ≡ kind_with before → kind_with after ≡ kind_with before
          → Replays (empty (kind_with before)) (get_or s.logs object [] ++ logged row request given) after
          → (y : ℕ) (d : Content) → slice_get (set contents object after) y ≡ Some d
          → Replays (empty (kind_with d))
          (get_or (set s.logs object (get_or s.logs object [] ++ logged row request given)) y []) d
      fits_served object row request before after given at there kind same whole y d e = dite (ℕ_discrete y object)
          (λ yx. let here : after ≡ d =
          same_Some after d (sym (slice_get-set_same contents object after before at)
          ∙ ap (slice_get (set contents object after)) (sym yx) ∙ e) in
          rw (
            ← here,
            yx,
            same,
            get_or-set_same s.logs object (get_or s.logs object [] ++ logged row request given) []
                there,
          ) whole)
          (λ yo. rw (get_or-set_other s.logs object y (get_or s.logs object [] ++ logged row request given) [] yo)
          (m.fits y d (sym (slice_get-set_other contents object after y yo) ∙ e)))
