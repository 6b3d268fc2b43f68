-- `below`: the places are those of the list below `high`. The loop keeps that they are in front of any that the
-- list has from the slot on (`below_step`), so they are all once the list ends or reaches `high` (`listed_end`).
use Rattle.std.proofs.Common.{◌<◌, length, inl, inr, sym, ◌∙◌, arith}
use Rattle.std.proofs.lemmas.List.{get_or_default}
use Rattle.order_search.proofs.Steps.{listed_end, below_step}
use Rattle.order_search.proofs.not_done.NotDone.below.Goals as goal

pub returns-then-high-place : goal.returns-then-high-place
returns-then-high-place c =
    let nx = c.args.self.now.next.items in
    let i = c.loop-places.invariant in
    let long = i.linked.long_next in
    let w = i.within in
    let l : c.loop-places.slot < length nx = omega arith in
    listed_end _ _ _ _ _ i.front l
    (sym (c.index-place.ensures ∙ get_or_default nx c.loop-places.slot _ 0 l)) (inl c.if-high-place.true)

pub returns-then-len-place : goal.returns-then-len-place
returns-then-len-place c =
    let nx = c.args.self.now.next.items in
    let i = c.loop-places.invariant in
    let long = i.linked.long_next in
    let w = i.within in
    let l : c.loop-places.slot < length nx = omega arith in
    listed_end _ _ _ _ _ i.front l
    (sym (c.index-place.ensures ∙ get_or_default nx c.loop-places.slot _ 0 l)) (inr (omega arith))

pub loop-places-preserved : goal.loop-places-preserved
loop-places-preserved c =
    let nx = c.args.self.now.next.items in
    let i = c.loop-places.invariant in
    let long = i.linked.long_next in
    let w = i.within in
    let l : c.loop-places.slot < length nx = omega arith in
    let s = below_step _ _ _ _ _ _ _ _ _ i.linked i.within i.slot i.front
    (c.index-place.ensures ∙ get_or_default nx c.loop-places.slot _ 0 l) (omega arith) c.in_ok-push.ensures.items in
    record { n = i.n; done = i.done; linked = i.linked; within = s.0; slot = s.1; front = s.2 }
