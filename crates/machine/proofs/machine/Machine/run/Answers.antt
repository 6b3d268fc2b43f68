-- `run`: the steps so far were taken, or passed over where they were not possible, and these are counted. The loop
-- keeps that, and one turn more adds one step to the run (`joined_steps`).
use Rattle.std.proofs.Common.{◌+◌, ◌∷◌, [], subst, arith, List, ℕ}
use Rattle.model.specs.declared.Kind.{Kind}
use Rattle.desk_model.specs.Transitions.{Step}
use Rattle.machine.specs.Machines.{world_of}
use Rattle.machine.specs.Runs.{TakesPossible}
use Rattle.machine.specs.Steps.{step_in}
use Rattle.machine.proofs.StepsInARow.{joined_steps, taken_more, like_both}
use Rattle.machine.proofs.machine.Machine.run.Goals as goal

pub loop-at-preserved : goal.loop-at-preserved
loop-at-preserved g c =
    let like = c.loop-at.invariant.like in
    let now = c.args.self.now in
    let v = c.index-steps-at.result in
    let one = subst (λ (ks : List Kind). TakesPossible ks now.quota (world_of c.loop-at.self)
    ((v.0, step_in g.S.SeqObject.op_in v.1) ∷ []) c.in-Ok.passed (world_of c.turn.new.self)) like.kinds
    (subst (λ (q : ℕ). TakesPossible c.loop-at.self.kinds q (world_of c.loop-at.self)
    ((v.0, step_in g.S.SeqObject.op_in v.1) ∷ []) c.in-Ok.passed
    (world_of c.turn.new.self)) like.quota c.in-Ok.ensures.ok) in
    record {
      ran = subst (λ (ms : List (ℕ × Step)). TakesPossible now.kinds now.quota (world_of now) ms
          (c.loop-at.refused + c.in-Ok.passed) (world_of c.turn.new.self))
          (taken_more (λ m. (m.0, step_in g.S.SeqObject.op_in m.1)) c.args.steps.now c.loop-at.at v
          c.loop-at-test.true c.index-steps-at.is)
          (joined_steps now.kinds now.quota (world_of now) _ c.loop-at.refused (world_of c.loop-at.self) _
          c.in-Ok.passed
          (world_of c.turn.new.self) c.loop-at.invariant.ran one);
      like = like_both _ _ _ like c.in-Ok.ensures.like;
      run = c.in-Ok.ensures.run;
      few = omega (arith, c.loop-at.invariant.few, c.in-Ok.ensures.few);
    }
