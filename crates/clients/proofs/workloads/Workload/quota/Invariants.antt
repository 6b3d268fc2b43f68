use Rattle.std.proofs.Common.{◌<◌, ◌≤◌, ℕ, length}
use Rattle.clients.specs.Workloads.{calls_at}
use Rattle.clients.proofs.workloads.Workload.quota.Given as goal

abbrev pub invariant-loop-client : goal.invariant-loop-client
invariant-loop-client l = (l.most < 10001) × ((c : ℕ) → c < l.client → length (calls_at l.self c) ≤ l.most)
