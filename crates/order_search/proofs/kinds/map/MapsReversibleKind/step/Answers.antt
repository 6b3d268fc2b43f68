use Rattle.std.proofs.Common.{rules, ◌≡◌, ap, ◌∙◌, to_z, of_z, w64}
use Rattle.model.specs.declared.AnyOp.TheVariants.{Put, Del}
use Rattle.order_search.proofs.Keys.{put_step, del_step, same_step}
use Rattle.order_search.proofs.kinds.map.MapsReversibleKind.step.Goals as goal

pub returns-in_ok-apply-in-Put : goal.returns-in_ok-apply-in-Put
returns-in_ok-apply-in-Put c =
    let key : c.in-Put.key ≡ to_z w64 (of_z w64 c.in-Put.key) = search rules in
    let value : c.in-Put.value ≡ to_z w64 (of_z w64 c.in-Put.value) = search rules in
    same_step _ _ _ _ _ c.new.ensures
    (put_step _ _ _ _ _ _ _ (c.in-Put.is ∙ (λ i. Put (key i) (value i))) c.in_ok-apply-in-Put.ensures.ok
    c.value_of-before.ensures)

pub returns-in_ok-apply-in-Del : goal.returns-in_ok-apply-in-Del
returns-in_ok-apply-in-Del c =
    let key : c.in-Del.key ≡ to_z w64 (of_z w64 c.in-Del.key) = search rules in
    same_step _ _ _ _ _ c.new-in-Del.ensures
    (del_step _ _ _ _ _ _ (c.in-Del.is ∙ ap Del key) c.in_ok-apply-in-Del.ensures.ok c.value_of-before-in-Del.ensures)
