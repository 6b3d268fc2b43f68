use Rattle.std.proofs.Common.{◌≤◌, ◌*◌}
use Rattle.desk_model.specs.Limits.{max_calls}
use Rattle.clients.proofs.log_room.calls_on.Given as goal

-- no client has more calls than a desk lets it make
abbrev pub invariant-loop-client : goal.invariant-loop-client
invariant-loop-client l = l.count ≤ l.client * max_calls
