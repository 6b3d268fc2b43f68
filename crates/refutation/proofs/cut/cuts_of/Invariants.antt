use Rattle.std.proofs.Common.{◌≡◌, [], drop, map}
use Rattle.edn_reader.specs.Datum.{items_of}
use Rattle.edn_reader.specs.View.{views}
use Rattle.refutation.specs.Denotes.{seen_cut, cuts_with}
use Rattle.refutation.proofs.cut.cuts_of.Given as goal

abbrev pub invariant-loop-form : goal.invariant-loop-form
invariant-loop-form l =
    cuts_with (map seen_cut l.cuts.items) (items_of (views (drop l.form-index l.forms)))
    ≡ cuts_with [] (items_of (views l.forms))
