use Rattle.std.proofs.Common.{◌∙◌, ap, sym}
use Rattle.model.specs.Objects.{empty, kind_with}
use Rattle.model.proofs.Objects.{kind_of_empty}
use Rattle.combiner_tests.proofs.bench.object_of.Goals as goal

pub returns : goal.returns
returns c =
    let e = c.empty.ensures in
    e ∙ ap empty (sym (ap kind_with e ∙ kind_of_empty c.args.kind))
