use Rattle.std.proofs.Common.{◌≡◌, [], drop}
use Rattle.edn_reader.specs.Datum.{items_of}
use Rattle.edn_reader.specs.View.{views}
use Rattle.refutation.specs.Denotes.{numbers_with}
use Rattle.refutation.proofs.sets.numbers_of.Given as goal

abbrev pub invariant-loop-form : goal.invariant-loop-form
invariant-loop-form l =
    numbers_with l.set.keys (items_of (views (drop l.form-index l.forms))) ≡ numbers_with [] (items_of (views l.forms))
