use Rattle.std.proofs.Common.{ℕ, ◌<◌}
use Rattle.machine.specs.Steps.{HasEnded}
use Rattle.machine.proofs.machine.Machine.first_going.Given as goal

-- the clients so far have ended
abbrev pub invariant-loop-client : goal.invariant-loop-client
invariant-loop-client g l = (d : ℕ) → d < l.client → HasEnded l.self d
