use Rattle.std.proofs.Common.{◌≡◌, ◌++◌, map}
use Rattle.edn_reader.specs.View.{views}
use Rattle.refutation.specs.Lines.{integer_datum}
use Rattle.refutation.proofs.writer.integers_form.Given as goal

abbrev pub invariant-loop-n : goal.invariant-loop-n
invariant-loop-n l =
    map integer_datum l.integers.keys ≡ views l.forms.items ++ map integer_datum l.n-iterator
