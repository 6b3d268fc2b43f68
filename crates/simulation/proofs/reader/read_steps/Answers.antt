use Rattle.std.proofs.Common.{rules, ◌≡◌, None, Some}
use Rattle.edn_reader.specs.View.{view}
use Rattle.simulation.specs.Schedules.{step_of}
use Rattle.simulation.proofs.Steps.{no_step, steps_to}
use Rattle.simulation.proofs.reader.read_steps.Goals as goal

pub returns-in_default-clause-fault : goal.returns-in_default-clause-fault
returns-in_default-clause-fault c =
    let none : None ≡ step_of (view c.index-forms-place.result) = search rules in
    no_step c.args.forms.now c.loop-place.place c.index-forms-place.result c.loop-place.steps.items
    c.loop-place-test.true c.index-forms-place.is c.loop-place.invariant none

pub returns-in_default-push-clause-fault : goal.returns-in_default-push-clause-fault
returns-in_default-push-clause-fault c =
    let one : Some c.in-Some.step ≡ step_of (view c.index-forms-place.result) = search rules in
    steps_to c.args.forms.now c.loop-place.place c.index-forms-place.result c.loop-place.steps.items c.in-Some.step
    c.loop-place-test.true c.index-forms-place.is c.loop-place.invariant one
