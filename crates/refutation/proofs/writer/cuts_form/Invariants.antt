use Rattle.std.proofs.Common.{◌≡◌, map, take}
use Rattle.std.specs.List.{AllByRecursion}
use Rattle.edn_reader.specs.View.{views}
use Rattle.refutation.specs.Lines.{cut_datum}
use Rattle.refutation.specs.Written.{IsTypedCut}
use Rattle.refutation.proofs.writer.cuts_form.Given as goal

abbrev pub invariant-loop-cut : goal.invariant-loop-cut
invariant-loop-cut l = record {
  made : views l.forms.items ≡ map cut_datum (take l.cut-index l.cuts);
  typed : AllByRecursion IsTypedCut (take l.cut-index l.cuts);
}
