use Rattle.std.proofs.Common.{◌≡◌, drop}
use Rattle.edn_reader.specs.Truncation.{integers_in}
use Rattle.edn_reader.specs.Datum.{items_of}
use Rattle.edn_reader.specs.View.{views}
use Rattle.certificate.proofs.Reading.{integers_after}
use Rattle.certificate.proofs.reader.integers_of.Given as goal

abbrev pub invariant-loop-form : goal.invariant-loop-form
invariant-loop-form l =
    integers_after l.integers.items (drop l.form-index l.forms) ≡ integers_in (items_of (views l.forms))
