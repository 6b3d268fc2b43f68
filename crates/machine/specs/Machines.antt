-- What a machine is made of, and the world that it is.
use Rattle.std.specs.Prelude.{◌≡◌, ℕ, ◌<◌, Bool, false, List, [], ◌∷◌, map, length, slice_get, ◌+◌}
use Rattle.std.specs.Prelude.{slice_index_or, Option, Some, None}
use Rattle.model.specs.declared.Kind.{Kind}
use Rattle.model.specs.declared.AnyOp.{AnyOp}
use Rattle.model.specs.declared.AnyReply.{AnyReply}
use Rattle.model.specs.Objects.{Content, empty, kind_with}
use Rattle.desk_model.specs.declared.LogEntry.{LogEntry}
use Rattle.desk_model.specs.declared.JournalEvent.{JournalEvent}
use Rattle.desk_model.specs.declared.JournalEvent.TheVariants.{Invoked, Returned}
use Rattle.desk_model.specs.World as world
use Rattle.desk_model.specs.World.{AnyEntry, AnyEvent, AnyDone, World, journal_in, Replays}
use Rattle.desk_model.specs.Images.{request_in, answer_in, entry_in, event_in}
use Rattle.machine.specs.declared.step.Stage.{Stage}
use Rattle.machine.specs.declared.step.Stage.TheVariants.{Idle, Drawn, Posted, Picked, Answered}
use Rattle.machine.specs.declared.step.Stage.TheVariants.{Taken}
use Rattle.machine.specs.Runs.{IsWorldOfRun}
use Rattle.desk_model.specs.Limits.{max_objects, max_clients, max_calls}

-- a stage, of operations and replies of all kinds
abbrev pub AnyStage : Type 0
AnyStage = Stage AnyOp AnyReply

-- A machine as contracts see it: of each object its kind, its log, its holder and the row in the
-- holder's hand; of each client its stage, its journal, and whether it has ended.
pub record State : Type 0 where
  pub kinds : List Kind
  pub logs : List (List AnyEntry)
  pub holders : List (Option ℕ)
  pub hands : List (Option ℕ)
  pub stages : List AnyStage
  pub journals : List (List AnyEvent)
  pub ended : List Bool
  pub clock : ℕ
  pub quota : ℕ

module _ {O R : Type 0} (op_in : O → AnyOp) (reply_in : R → AnyReply) where
  -- the stage of a call, with what its operation and its reply stand for
  abbrev pub stage_in : Stage O R → AnyStage
  stage_in Idle = Idle
  stage_in (Drawn q) = Drawn (request_in op_in q)
  stage_in (Posted q) = Posted (request_in op_in q)
  stage_in (Picked q) = Picked (request_in op_in q)
  stage_in (Answered q a) = Answered (request_in op_in q) (answer_in reply_in a)
  stage_in (Taken q a) = Taken (request_in op_in q) (answer_in reply_in a)

-- the fields of a machine, by what they stand for
abbrev pub state_of : {S O R : Type 0} → (S → Content) → (O → AnyOp) → (R → AnyReply) → List S
    → List (List (LogEntry O R)) → List (Option ℕ) → List (Option ℕ) → List (Stage O R)
    → List (List (JournalEvent O R)) → List Bool → ℕ → ℕ → State
state_of content op_in reply_in objects logs holders hands stages journals ended clock quota =
    record {
      kinds = map (λ o. kind_with (content o)) objects;
      logs = map (map (entry_in op_in reply_in)) logs;
      holders = holders;
      hands = hands;
      stages = map (stage_in op_in reply_in) stages;
      journals = map (map (event_in op_in reply_in)) journals;
      ended = ended;
      clock = clock;
      quota = quota;
    }

-- how many clients there are
abbrev pub clients_of : State → ℕ
clients_of s = length s.stages

-- how far a client's call has come
abbrev pub stage_of : AnyStage → world.Stage
stage_of Idle = world.idle
stage_of (Drawn q) = world.drawn q
stage_of (Posted q) = world.posted q
stage_of (Picked q) = world.picked q
stage_of (Answered q a) = world.answered q a
stage_of (Taken q a) = world.taken q a

-- the calls that a journal says are over
abbrev pub done_in : List AnyEvent → List AnyDone
done_in (Invoked t x op ∷ Returned u a ∷ es) =
    record { request = record { object = x; ticket = t; op = op }; answer = a; returned = u }
    ∷ done_in es
done_in es = []

-- the world: what is past the last object or client is as it was at the start
abbrev pub world_of : State → World
world_of s = record {
  clock = s.clock;
  holder = λ x. slice_index_or s.holders x None;
  hand = λ x. slice_index_or s.hands x None;
  log = λ x. slice_index_or s.logs x [];
  stage = λ c. slice_index_or (map stage_of s.stages) c world.absent;
  done = λ c. done_in (slice_index_or s.journals c []);
  ended = λ c. slice_index_or s.ended c false;
}

-- the machine's world is that of a run
abbrev pub HasRun : State → Type 0
HasRun s = IsWorldOfRun s.kinds (clients_of s) s.quota (world_of s)

-- what holds of a machine between any two steps, its objects containing this
pub record IsMachine (contents : List Content) (s : State) : Type 0 where
  pub kinds : s.kinds ≡ map kind_with contents
  pub logs : length s.logs ≡ length s.kinds
  pub holders : length s.holders ≡ length s.kinds
  pub hands : length s.hands ≡ length s.kinds
  pub journals : length s.journals ≡ length s.stages
  pub ended : length s.ended ≡ length s.stages
  pub few_objects : length s.kinds < 1 + max_objects
  pub few_clients : length s.stages < 1 + max_clients
  pub few_calls : s.quota < 1 + max_calls
  -- each object contains what its log leaves
  pub fits : (x : ℕ) (c : Content) → slice_get contents x ≡ Some c
      → Replays (empty (kind_with c)) (slice_index_or s.logs x []) c
  -- each journal is that of the world
  pub journals_are : (c : ℕ) → slice_index_or s.journals c [] ≡ journal_in (world_of s) c
  -- a client holds one object at most
  pub single : (c x y : ℕ) → slice_index_or s.holders x None ≡ Some c
      → slice_index_or s.holders y None ≡ Some c → x ≡ y
  -- the world is that of a run
  pub run : HasRun s
