use Rattle.std.proofs.Common.{◌≡◌, to_z, of_z, w64, ap, sym, ◌∙◌, arith}
use Rattle.std.specs.Ordering.{int_cmp}
use Rattle.std.specs.BTreeSet.{insert_key}
use Rattle.std.proofs.lemmas.Int.{ints}
use Rattle.refutation.proofs.Elements.{integer_added}
use Rattle.refutation.proofs.sets.integers.Goals as goal

pub loop-form-preserved : goal.loop-form-preserved
loop-form-preserved c =
    let e : to_z w64 (of_z w64 c.in-Some.n) ≡ c.in-Some.n = omega (arith, ints) in
    integer_added c.args.forms.now c.loop-form.form-index c.form-item.result _ _ c.in-Some.n _ c.loop-form-test.true
    c.form-item.is
    (sym c.in-Some.is ∙ c.integer.ensures)
    (c.in_ok-insert.ensures.keys ∙ ap (insert_key int_cmp c.loop-form.set.keys) e)
    c.loop-form.invariant
