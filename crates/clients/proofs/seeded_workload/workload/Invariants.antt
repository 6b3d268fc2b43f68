use Rattle.std.proofs.Common.{◌≡◌, ◌<◌, All, length, map}
use Rattle.std.specs.List.{range_with_len}
use Rattle.clients.specs.Workloads.{IsCall}
use Rattle.seq_objects.specs.Kinds.{kinds_of}
use Rattle.clients.specs.Drawing.{client_calls}
use Rattle.clients.proofs.seeded_workload.workload.Given as goal

abbrev pub invariant-loop-client : goal.invariant-loop-client
invariant-loop-client l = record {
  drawn : map (λ v. v.items) l.calls_of_all.items
      ≡ map (client_calls l.kinds l.objects l.calls l.seed) (range_with_len 0 l.client);
  few : All (λ cs. length cs < 10001) (map (λ v. v.items) l.calls_of_all.items);
  fits : All (λ cs. All (IsCall (kinds_of l.kinds l.objects)) cs) (map (λ v. v.items) l.calls_of_all.items);
}
