use Rattle.std.proofs.Common.{arith}
use Rattle.std.proofs.lemmas.List.{nil_from_length}
use Rattle.parallel.proofs.Joining.{nothing_joined, join_more, all_joined}
use Rattle.parallel.proofs.gathering.join_shares.Goals as goal

pub loop-part-init : goal.loop-part-init
loop-part-init c = nothing_joined (λ v. v.items) _ _ c.new-sorted.ensures.empty

pub loop-part-preserved : goal.loop-part-preserved
loop-part-preserved c =
    join_more (λ v. v.items) _ _ _ _ _ _ _ c.loop-part.invariant c.in-Some.ensures.steps.0 c.in_ok-objects.was
    c.in_ok-put_in.ensures

pub returns : goal.returns
returns c =
    let ok = c.loop-part.part-iterator.rest.ok in
    let none = c.in-None.ensures.steps.0 in
    all_joined (λ v. v.items) _ _ _ _ c.into_iter-part-iterator.ensures.into_iter_gives.0
    (nil_from_length _ (omega (arith, ok, none))) c.requires c.loop-part.invariant
