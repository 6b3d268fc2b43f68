use Rattle.std.proofs.Common.{◌≡◌, [], drop}
use Rattle.edn_reader.specs.Datum.{items_of}
use Rattle.edn_reader.specs.View.{views}
use Rattle.refutation.specs.Denotes.{integers_with}
use Rattle.refutation.proofs.sets.integers.Given as goal

abbrev pub invariant-loop-form : goal.invariant-loop-form
invariant-loop-form l =
    integers_with l.set.keys (items_of (views (drop l.form-index l.forms)))
    ≡ integers_with [] (items_of (views l.forms))
