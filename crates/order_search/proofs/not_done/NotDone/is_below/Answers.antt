use Rattle.std.proofs.Common.{◌+◌, length, ap, inl, inr, arith}
use Rattle.std.proofs.lemmas.Bool.{leb-true}
use Rattle.order_search.proofs.Steps.{below_end}
use Rattle.order_search.proofs.not_done.NotDone.is_below.Goals as goal

pub returns-then-high-place : goal.returns-then-high-place
returns-then-high-place c =
    λ u. below_end _ _ _ _ _ _ _ c.deref-2.ensures.value c.loop-place.invariant
    c.loop-place-test.false c.in-Some.ensures.lookup.3 (inl c.if-high-place.true)

pub returns-else-high-place : goal.returns-else-high-place
returns-else-high-place c = λ u.
    let t = leb-true c.len.result (c.in-Some.place.now + 1) u in
    let q = ap length c.deref-2.ensures.value in
    let w = c.len.ensures in
    below_end _ _ _ _ _ _ _ c.deref-2.ensures.value c.loop-place.invariant c.loop-place-test.false
    c.in-Some.ensures.lookup.3 (inr (omega arith))
