use Rattle.std.proofs.Common.{refl, sym, subst}
use Rattle.parallel.proofs.Joining.{AreListed, list_more, all_listed}
use Rattle.parallel.proofs.gathering.objects_of_shares.Goals as goal

pub loop-object-init : goal.loop-object-init
loop-object-init c = subst (AreListed _ _) (sym c.new-objects.ensures.items) refl

pub loop-object-preserved : goal.loop-object-preserved
loop-object-preserved c =
    subst (AreListed _ _) (sym c.in_ok-push.ensures.items)
    (list_more _ _ _ _ _ _ c.loop-object.invariant c.in-Some.ensures.steps)

pub returns : goal.returns
returns c = λ es parts.
    let gives = c.into_iter-object-iterator.ensures.into_iter_gives in
    all_listed es c.in_ok-sorted.sorted c.into_iter-object-iterator.result _ c.loop-object.objects.items gives.5
    (c.in_ok-sorted.ensures es parts)
    gives.0 c.in-None.ensures.steps.0 c.loop-object.invariant
