use Rattle.std.proofs.Common.{◌≡◌, ◌-◌, ◌++◌, All, length}
use Rattle.seq_objects.specs.Kinds.{kinds_of}
use Rattle.clients.specs.Drawing.{drawn_calls, stream_at}
use Rattle.clients.specs.Workloads.{IsCall}
use Rattle.clients.proofs.calls.draw_calls.Given as goal

abbrev pub invariant-loop : goal.invariant-loop
invariant-loop l = record {
  drawn : l.calls.items ++ drawn_calls l.kinds l.objects (l.count - l.counter) (stream_at l.generator)
      ≡ drawn_calls l.kinds l.objects l.count (stream_at l.fn.generator);
  counts : length l.calls.items ≡ l.counter;
  fit : All (IsCall (kinds_of l.kinds l.objects)) l.calls.items;
}
