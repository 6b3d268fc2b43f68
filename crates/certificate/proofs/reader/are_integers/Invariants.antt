use Rattle.std.proofs.Common.{◌≡◌, drop}
use Rattle.std.specs.Prelude.{is_some}
use Rattle.edn_reader.specs.Truncation.{integers_in}
use Rattle.edn_reader.specs.Datum.{items_of}
use Rattle.edn_reader.specs.View.{views}
use Rattle.certificate.proofs.reader.are_integers.Given as goal

abbrev pub invariant-loop-form : goal.invariant-loop-form
invariant-loop-form l =
    is_some (integers_in (items_of (views (drop l.form-index l.forms))))
    ≡ is_some (integers_in (items_of (views l.forms)))
