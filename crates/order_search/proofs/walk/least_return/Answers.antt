-- `least_return`: the result is the least return of the operations that are not in the order. The loop keeps that
-- of the places below `at`, which rises. It ends where the floor of the returns is greater, or no place is left.
use Rattle.std.proofs.Common.{◌<◌, ◌+◌, length, get_or, inl, inr, ap, ◌∙◌, add-one, arith}
use Rattle.std.proofs.lemmas.List.{get_or_default}
use Rattle.order_search.specs.Arranged.{as_call}
use Rattle.order_search.proofs.Steps.{call_read, next_stop, least_first, least_step, least_last}
use Rattle.order_search.proofs.walk.least_return.Goals as goal

pub loop-at-init : goal.loop-at-init
loop-at-init c = λ done link.
    let long = link.long_next in
    least_first c.args.trials.now.items.items link
    (c.index.ensures ∙ get_or_default c.args.not_done.now.next.items 0 _ 0 (omega arith))

pub loop-at-smaller : goal.loop-at-smaller
loop-at-smaller c =
    let nx = c.args.not_done.now.next.items in
    let h = c.requires.linked in
    let t = c.loop-at-test.true in
    let at = c.loop-at.at in
    let s = next_stop h.1 (c.loop-at.invariant h.0 h.1).1 (omega arith) in
    let up = s.0.rises in
    let e = c.index-in-loop-at-3.ensures ∙ get_or_default nx (at + 1) _ 0 s.1 ∙ ap (λ x. get_or nx x 0) (add-one at) in
    omega arith

pub loop-at-preserved : goal.loop-at-preserved
loop-at-preserved c = λ done link.
    let nx = c.args.not_done.now.next.items in
    let items = c.args.trials.now.items.items in
    let m = c.loop-at.invariant done link in
    let t = c.loop-at-test.true in
    let at = c.loop-at.at in
    least_step items c.index-in-loop-at-2.result.now link m (omega arith)
    (ap as_call c.index-in-loop-at-2.ensures ∙ call_read items at _ (omega arith))
    (c.index-in-loop-at-3.ensures ∙ get_or_default nx (at + 1) _ 0 (next_stop link m.1 (omega arith)).1)
    c.earlier-least.ensures.below c.earlier-least.ensures.own c.earlier-least.ensures.either

pub returns-else-index-least : goal.returns-else-index-least
returns-else-index-least c = λ done link.
    let t = c.requires.trials in
    let floors = c.args.trials.now.return_floors.items in
    let at = c.loop-at.at in
    let l = c.loop-at-test.true in
    let long = t.return_floors_right.long in
    let inside : at < length floors = omega arith in
    let e = c.index-in-loop-at.ensures ∙ get_or_default floors at _ 0 inside in
    let f = c.if-index-least.false in
    least_last t (c.loop-at.invariant done link).0 (inr (omega arith))

pub returns-after-loop-at : goal.returns-after-loop-at
returns-after-loop-at c = λ done link.
    let l = c.loop-at-test.false in
    least_last c.requires.trials (c.loop-at.invariant done link).0 (inl (omega arith))
