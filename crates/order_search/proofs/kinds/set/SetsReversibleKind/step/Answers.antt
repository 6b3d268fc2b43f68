use Rattle.std.proofs.Common.{rules, ◌≡◌, ap, ◌∙◌, to_z, of_z, w64}
use Rattle.model.specs.declared.AnyOp.TheVariants.{Add, Remove}
use Rattle.order_search.proofs.Keys.{same_step}
use Rattle.order_search.proofs.Members.{add_step, remove_step}
use Rattle.order_search.proofs.kinds.set.SetsReversibleKind.step.Goals as goal

pub returns-in_ok-is_added-in-Add : goal.returns-in_ok-is_added-in-Add
returns-in_ok-is_added-in-Add c =
    let v : c.in-Add.v ≡ to_z w64 (of_z w64 c.in-Add.v) = search rules in
    same_step _ _ _ _ _ c.new.ensures
    (add_step _ _ _ _ _ (c.in-Add.is ∙ ap Add v) c.in_ok-is_added-in-Add.ensures.ok)

pub returns-in_ok-is_removed-in-Remove : goal.returns-in_ok-is_removed-in-Remove
returns-in_ok-is_removed-in-Remove c =
    let v : c.in-Remove.v ≡ to_z w64 (of_z w64 c.in-Remove.v) = search rules in
    same_step _ _ _ _ _ c.new-in-Remove.ensures
    (remove_step _ _ _ _ _ (c.in-Remove.is ∙ ap Remove v) c.in_ok-is_removed-in-Remove.ensures.ok)
