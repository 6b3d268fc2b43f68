use Rattle.std.proofs.Common.{◌≡◌, ◌-◌, ◌++◌, ◌*◌, All, length}
use Rattle.seq_objects.specs.Kinds.{kinds_of}
use Rattle.clients.specs.Drawing.{pairs_from, stream_at}
use Rattle.model.specs.Objects.{kind_of}
use Rattle.seq_objects.specs.declared.kinds.Kinds.TheVariants.{One}
use Rattle.clients.specs.Workloads.{IsCall}
use Rattle.clients.proofs.calls.draw_pairs.Given as goal

abbrev pub invariant-loop : goal.invariant-loop
invariant-loop l = record {
  drawn : l.calls.items ++ pairs_from l.take l.free l.objects (l.count - l.counter) (stream_at l.generator)
      ≡ pairs_from l.take l.free l.objects l.count (stream_at l.fn.generator);
  counts : length l.calls.items ≡ l.counter * 2;
  fit : All (IsCall (kinds_of (One (kind_of l.take)) l.objects)) l.calls.items;
}
