use Rattle.std.proofs.Common.{◌≡◌, drop}
use Rattle.edn_reader.specs.Datum.{entries_of}
use Rattle.edn_reader.specs.View.{pair_views}
use Rattle.edn.specs.Fields as spec
use Rattle.edn.proofs.fields.value_at.Given as goal

abbrev pub invariant-loop-entry : goal.invariant-loop-entry
invariant-loop-entry l =
    spec.value_at l.key (entries_of (pair_views (drop l.entry-index l.entries)))
    ≡ spec.value_at l.key (entries_of (pair_views l.entries))
