use Rattle.std.proofs.Common.{◌≡◌, map, take, Some}
use Rattle.edn_reader.specs.View.{views}
use Rattle.simulation.specs.Schedules.{step_of}
use Rattle.simulation.proofs.reader.read_steps.Given as goal

-- the forms so far are these steps
abbrev pub invariant-loop-place : goal.invariant-loop-place
invariant-loop-place l = map step_of (views (take l.place l.forms)) ≡ map (λ s. Some s) l.steps.items
