use Rattle.std.proofs.Common.{◌≡◌, take}
use Rattle.clients.proofs.Works.{HasMade}
use Rattle.clients.proofs.worker.make_all.Given as goal

abbrev pub invariant-loop-place : goal.invariant-loop-place
invariant-loop-place g l =
    (l.client.desk ≡ l.initial.client.desk) × HasMade (take l.place l.calls) l.initial.client.knows l.client.knows
