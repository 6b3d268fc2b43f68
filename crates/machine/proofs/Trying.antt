-- A step that is not possible now is impossible in the world, and after a step that was tried, done or refused, the
-- state is still that of a run.
use Rattle.std.proofs.Common.{◌≡◌, ℕ, Result, Ok, Err, IfErr, IsErrAnd, sym, subst, ◌∙◌}
use Rattle.model.specs.declared.AnyReply.{AnyReply}
use Rattle.desk_model.specs.Transitions.{Step}
use Rattle.machine.specs.declared.step.Outcome.{Outcome}
use Rattle.machine.specs.declared.step.StepFault.{StepFault}
use Rattle.machine.specs.declared.step.StepFault.TheVariants.{NotNow, NoMemory}
use Rattle.machine.specs.Machines.{State, HasRun, world_of}
use Rattle.machine.specs.Runs.{IsImpossible}
use Rattle.machine.specs.Steps.{IsDraw, IsPossible, Tries}
use Rattle.machine.proofs.Kept.{run_taken}

-- a step that was refused as not possible now is impossible in the world
pub not_now : {R : Type 0} (reply_in : R → AnyReply) (state after : State) (client : ℕ) (step tried : Step)
    (result : Result (Outcome R) StepFault) → step ≡ tried
    → Tries reply_in state client tried result after
    → IfErr result (λ e. e ≡ NotNow → IsImpossible state.kinds state.quota (world_of state) (client, step))
not_now reply_in state after client step tried (Ok o) is h = tt
not_now reply_in state after client step tried (Err NotNow) is h =
    λ e. subst (λ (z : Step). IsImpossible state.kinds state.quota (world_of state) (client, z)) (sym is) h.1
not_now reply_in state after client step tried (Err NoMemory) is h = λ e. absurd (cc)

-- An allocation failed at a draw that is possible, and nothing has changed.
pub no_memory : {R : Type 0} (reply_in : R → AnyReply) (state after : State) (client : ℕ) (step : Step)
    (result : Result (Outcome R) StepFault) (fault : StepFault)
    → IsErrAnd result (λ f. f ≡ fault) → fault ≡ NoMemory → after ≡ state → IsDraw step → IsPossible state client step
    → Tries reply_in state client step result after
no_memory reply_in state after client step (Ok o) fault h is same draw possible = absurd h
no_memory reply_in state after client step (Err f) fault h is same draw possible =
    subst (λ (z : StepFault). Tries reply_in state client step (Err z) after) (sym (h ∙ is)) (same, draw, possible)

-- One step more, or none, is a run still.
pub tried_run : {R : Type 0} (reply_in : R → AnyReply) (state after : State) (client : ℕ) (step : Step)
    (result : Result (Outcome R) StepFault) → HasRun state → Tries reply_in state client step result after
    → HasRun after
tried_run reply_in state after client step (Ok o) run h = run_taken state after client step run h.0
tried_run reply_in state after client step (Err NotNow) run h = subst HasRun (sym h.0) run
tried_run reply_in state after client step (Err NoMemory) run h = subst HasRun (sym h.0) run
