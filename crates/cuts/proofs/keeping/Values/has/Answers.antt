use Rattle.std.proofs.Common.{ap, sym, ◌∙◌, w64}
use Rattle.std.proofs.lemmas.Int.{to_z-of_z}
use Rattle.std.specs.Ordering.{int_cmp}
use Rattle.std.specs.BTreeSet.{contains}
use Rattle.cuts.specs.declared.keeping.Values.{Values}
use Rattle.cuts.specs.Cuts.{keeps_value}
use Rattle.cuts.proofs.keeping.Values.has.Goals as goal

pub returns-in-Only : goal.returns-in-Only
returns-in-Only c = c.contains.ensures
    ∙ ap (contains int_cmp c.in-Only.values) (to_z-of_z w64 c.args.value c.ranges.value)
    ∙ ap (λ (z : Values). keeps_value z c.args.value) (sym c.in-Only.is)
