use Rattle.std.proofs.Common.{arith}
use Rattle.std.proofs.lemmas.List.{nil_from_length}
use Rattle.parallel.proofs.Joining.{nothing_put, put_more, all_put}
use Rattle.parallel.proofs.gathering.put_in.Goals as goal

pub loop-object-init : goal.loop-object-init
loop-object-init c = nothing_put _ _

pub loop-object-preserved-in_ok-insert : goal.loop-object-preserved-in_ok-insert
loop-object-preserved-in_ok-insert c =
    put_more _ _ _ _ _ _ _ _ c.loop-object.invariant c.in-Some.ensures.steps.0 c.object.ensures
    c.in_ok-insert.ensures.updates

pub loop-object-preserved : goal.loop-object-preserved
loop-object-preserved c =
    put_more _ _ _ _ _ _ _ _ c.loop-object.invariant c.in-Some.ensures.steps.0 c.object.ensures
    c.in_ok-insert.ensures.updates

pub returns : goal.returns
returns c =
    let ok = c.loop-object.object-iterator.rest.ok in
    let none = c.in-None.ensures.steps.0 in
    all_put _ _ _ _ _ c.into_iter-object-iterator.ensures.into_iter_gives.0
    (nil_from_length _ (omega (arith, ok, none))) c.loop-object.invariant
