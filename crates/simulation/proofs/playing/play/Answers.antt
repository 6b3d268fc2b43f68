-- `play`: the record is that of the schedule's steps, or a client has not ended. The machine starts as the header
-- says, and `run` took the steps that were possible; `is_played` and `is_going_on` join these.
use Rattle.std.proofs.Common.{List, ℕ, subst}
use Rattle.simulation.specs.Schedules.{AnyStep}
use Rattle.machine.specs.Machines.{world_of}
use Rattle.machine.specs.Runs.{TakesPossible}
use Rattle.machine.specs.Steps.{steps_in}
use Rattle.simulation.proofs.Machines.{is_going_on, is_played}
use Rattle.simulation.proofs.playing.play.Goals as goal

pub returns-in-Ok-finish-clause-played : goal.returns-in-Ok-finish-clause-played
returns-in-Ok-finish-clause-played c =
    let start = c.in-Ok.machine in
    let now = c.run.new.self in
    let end = c.in-Ok-finish.ensures in
    is_played c.args.schedule.now.header c.args.schedule.now.steps.items c.in-Ok-run.field-0.refused start now
    c.in-Ok.ensures.kinds c.in-Ok.ensures.counts.0 c.in-Ok.ensures.counts.1 c.in-Ok-run.ensures.same
    c.in-Ok-finish.record c.in-Ok.ensures.start
    (subst (λ (xs : List (ℕ × AnyStep)). TakesPossible start.kinds start.quota (world_of start) (steps_in (λ op. op) xs)
    c.in-Ok-run.field-0.refused
    (world_of now)) c.deref.ensures.value c.in-Ok-run.ensures.ran)
    c.in-Ok-run.ensures.run end.ended end.journals end.logs end.sound

pub returns-clause-fault : goal.returns-clause-fault
returns-clause-fault c =
    let start = c.in-Ok.machine in
    let now = c.run.new.self in
    let end = c.in-Err.ensures.going in
    is_going_on c.args.schedule.now.header c.args.schedule.now.steps.items c.in-Ok-run.field-0.refused start now
    c.in-Ok.ensures.kinds c.in-Ok.ensures.counts.0 c.in-Ok.ensures.counts.1 c.in-Ok-run.ensures.same
    c.in-Ok.ensures.start
    (subst (λ (xs : List (ℕ × AnyStep)). TakesPossible start.kinds start.quota (world_of start) (steps_in (λ op. op) xs)
    c.in-Ok-run.field-0.refused
    (world_of now)) c.deref.ensures.value c.in-Ok-run.ensures.ran)
    c.in-Ok-run.ensures.run _ end.1 end.2 end.3
