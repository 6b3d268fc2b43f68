-- What came of a step of a machine.
use Rattle.std.specs.Prelude.{◌≡◌, ℕ, ◌<◌, true, false, List, map, length, Some, None, Result, Ok}
use Rattle.std.specs.Prelude.{Err, IsSome, ⊤}
use Rattle.model.specs.declared.AnyOp.{AnyOp}
use Rattle.model.specs.declared.AnyReply.{AnyReply}
use Rattle.model.specs.Objects.{Content, empty, kind_of, next}
use Rattle.desk_model.specs.World.{World, AnyRequest, picked, answered, kind_at, Replays}
use Rattle.desk_model.specs.Transitions as world
use Rattle.desk_model.specs.Transitions.{Transition}
use Rattle.desk_model.specs.Images.{answer_in}
use Rattle.machine.specs.declared.step.Step.{Step}
use Rattle.machine.specs.declared.step.Step.TheVariants as step
use Rattle.machine.specs.declared.step.Outcome.{Outcome}
use Rattle.machine.specs.declared.step.Outcome.TheVariants as outcome
use Rattle.machine.specs.declared.step.StepFault.{StepFault}
use Rattle.machine.specs.declared.step.StepFault.TheVariants as fault
use Rattle.machine.specs.Machines.{State, clients_of, world_of}
use Rattle.machine.specs.Runs.{IsImpossible}

-- there is a client c, and it has not ended
abbrev pub IsGoing : State → ℕ → Type 0
IsGoing s c = (c < clients_of s) × ((world_of s).ended c ≡ false)

-- a request for x, and of its kind, that stood in the row r was picked up
abbrev pub HasPicked : State → ℕ → ℕ → Type 0
HasPicked s x r =
    (q : AnyRequest) × ((world_of s).stage r ≡ picked q) × (q.object ≡ x)
    × (kind_of q.op ≡ kind_at s.kinds x)

-- the log of x is possible from the empty content on, and leaves some content
abbrev pub HasContent : State → ℕ → Type 0
HasContent s x =
    (content : Content) × Replays (empty (kind_at s.kinds x)) ((world_of s).log x) content

-- the client c holds x, and has the request q of the row r in hand
pub record IsInHand (s : State) (c x r : ℕ) (q : AnyRequest) : Type 0 where
  pub object : x < length s.kinds
  pub row : r < clients_of s
  pub held : (world_of s).holder x ≡ Some c
  pub hand : (world_of s).hand x ≡ Some r
  pub stage : (world_of s).stage r ≡ picked q
  pub on : q.object ≡ x
  pub of_kind : kind_of q.op ≡ kind_at s.kinds x
  -- and nothing else
  pub only : (y : ℕ) → (world_of s).holder y ≡ Some c → y ≡ x

-- after the log of x, an object of its kind can do the operation
abbrev pub CanDo : State → ℕ → AnyOp → Type 0
CanDo s x op =
    (content : Content) × Replays (empty (kind_at s.kinds x)) ((world_of s).log x) content
    × IsSome (next content op)

-- the client c can take the step
abbrev pub IsPossible : State → ℕ → world.Step → Type 0
IsPossible s c w = (after : World) × Transition s.kinds s.quota w (world_of s) c after

-- the client c has ended
abbrev pub HasEnded : State → ℕ → Type 0
HasEnded s c = (world_of s).ended c ≡ true

-- both machines have the same objects, clients and quota
pub record IsLike (s s' : State) : Type 0 where
  pub kinds : s'.kinds ≡ s.kinds
  pub clients : clients_of s' ≡ clients_of s
  pub quota : s'.quota ≡ s.quota

-- the client c took the step; objects, clients and quota are the same after it
pub record IsStepTaken (s : State) (c : ℕ) (w : world.Step) (s' : State) : Type 0 where
  pub moves : Transition s.kinds s.quota w (world_of s) c (world_of s')
  pub kinds : s'.kinds ≡ s.kinds
  pub clients : clients_of s' ≡ clients_of s
  pub quota : s'.quota ≡ s.quota

-- the transition draws a ticket, for a call or for its return
abbrev pub IsDraw : world.Step → Type 0
IsDraw (world.draw_call x op) = ⊤
IsDraw world.draw_return = ⊤
IsDraw w = ⊥

-- the transition of a client is a draw, and possible
abbrev pub IsPossibleDraw : State → ℕ × world.Step → Type 0
IsPossibleDraw s m = IsDraw m.1 × IsPossible s m.0 m.1

module _ {O : Type 0} (op_in : O → AnyOp) where
  -- the transition that a step is
  abbrev pub step_in : Step O → world.Step
  step_in (step.Draw (Some call)) = world.draw_call call.0 (op_in call.1)
  step_in (step.Draw None) = world.draw_return
  step_in step.Post = world.post
  step_in (step.Win x) = world.win x
  step_in (step.Pick r) = world.pick r
  step_in step.Answer = world.answer
  step_in step.PutBack = world.put_back
  step_in step.Take = world.take
  step_in step.Release = world.release
  step_in step.End = world.end

  -- the transitions that steps of clients are
  abbrev pub steps_in : List (ℕ × Step O) → List (ℕ × world.Step)
  steps_in steps = map (λ m. (m.0, step_in m.1)) steps

module _ {R : Type 0} (reply_in : R → AnyReply) where
  -- A draw tells its ticket, and an answer tells what the row in hand was answered.
  abbrev pub IsOutcome : State → ℕ → world.Step → State → Outcome R → Type 0
  IsOutcome s c (world.draw_call x op) s' (outcome.Drew t) = t ≡ s.clock
  IsOutcome s c world.draw_return s' (outcome.Drew t) = t ≡ s.clock
  IsOutcome s c world.answer s' (outcome.Answered a) =
      (x : ℕ) × (r : ℕ) × (q : AnyRequest) × ((world_of s).holder x ≡ Some c)
      × ((world_of s).hand x ≡ Some r) × ((world_of s').stage r ≡ answered q (answer_in reply_in a))
  IsOutcome s c (world.draw_call x op) s' o = ⊥
  IsOutcome s c world.draw_return s' o = ⊥
  IsOutcome s c world.answer s' o = ⊥
  IsOutcome s c w s' outcome.Done = ⊤
  IsOutcome s c w s' o = ⊥

  -- The step was taken; or it is possible in no way; or an allocation failed at a draw that is
  -- possible. If it was not taken nothing has changed.
  abbrev pub Tries : State → ℕ → world.Step → Result (Outcome R) StepFault → State → Type 0
  Tries s c w (Ok o) s' = IsStepTaken s c w s' × IsOutcome s c w s' o
  Tries s c w (Err fault.NotNow) s' = (s' ≡ s) × IsImpossible s.kinds s.quota (world_of s) (c, w)
  Tries s c w (Err fault.NoMemory) s' = (s' ≡ s) × IsDraw w × IsPossible s c w
