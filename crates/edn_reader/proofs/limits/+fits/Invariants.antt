use Rattle.std.proofs.Common.{drop}
use Rattle.std.specs.Prelude.{◌↔◌}
use Rattle.edn_reader.specs.Datum.{items_of, entries_of, ItemsFit, EntriesFit}
use Rattle.edn_reader.specs.View.{views, pair_views}
use Rattle.edn_reader.proofs.limits.+fits.Given as goal

abbrev pub invariant-items_fit-loop-form : goal.invariant-items_fit-loop-form
invariant-items_fit-loop-form l =
    ItemsFit l.depth (items_of (views (drop l.form-index l.form-items)))
    ↔ ItemsFit l.depth (items_of (views l.form-items))

abbrev pub invariant-entries_fit-loop-i : goal.invariant-entries_fit-loop-i
invariant-entries_fit-loop-i l =
    EntriesFit l.depth (entries_of (pair_views (drop l.i l.entries.items)))
    ↔ EntriesFit l.depth (entries_of (pair_views l.entries.items))
