use Rattle.std.proofs.Common.{◌≡◌, map, take}
use Rattle.indexmap.specs.IndexMap.{keys, values}
use Rattle.report.specs.Counts.{first_seen, same_kind}
use Rattle.report.specs.Invoked.{kind_count}
use Rattle.report.proofs.counting.count_kinds.Given as goal

abbrev pub invariant-loop-invoked : goal.invariant-loop-invoked
invariant-loop-invoked l = record {
  kinds : keys l.counts ≡ first_seen same_kind (map (λ i. i.kind) (take l.invoked-index l.all));
  counted : values l.counts ≡ map (kind_count l.all) (keys l.counts);
}
