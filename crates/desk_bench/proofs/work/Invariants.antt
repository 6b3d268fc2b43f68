use Rattle.std.proofs.Common.{◌≡◌}
use Rattle.desk_bench.proofs.work.Given as goal

abbrev pub invariant-loop-i : goal.invariant-loop-i
invariant-loop-i g l = l.client.desk ≡ l.initial.client.desk
