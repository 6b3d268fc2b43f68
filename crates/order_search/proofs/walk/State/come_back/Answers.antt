-- `come_back`: with a level popped and its operation undone, the search is as sound as before that operation. The
-- stack without its top is a walk again (`came_back`), and the pair that is remembered is dead (`remembered_some`).
use Rattle.std.proofs.Common.{◌<◌, ◌+◌, length, reverse, ap, ◌∙◌, arith}
use Rattle.std.proofs.lemmas.List.{get_or_default, length-set}
use Rattle.model.specs.Orders.{Call}
use Rattle.order_search.specs.Arranged.{as_call, call_at, owes}
use Rattle.order_search.specs.Searching.{places}
use Rattle.order_search.proofs.Stack.{came_back}
use Rattle.order_search.proofs.Steps.{pushed, call_read, count_le}
use Rattle.order_search.proofs.Generations.{remembered_some}
use Rattle.order_search.proofs.walk.State.come_back.Goals as goal

pub owed_before-self-requires : goal.owed_before-self-requires
owed_before-self-requires c =
    let items = c.args.trials.now.items.items in
    let l = count_le (owes (call_at items) (places (reverse c.args.self.now.levels.items))) (length items) in
    omega (arith, c.requires.search.walk.counts, c.requires.trials.few, l)

pub put_back-requires-clause-small : goal.put_back-requires-clause-small
put_back-requires-clause-small c =
    let w = rw (pushed c.pop.new.self.items c.in-Some.ensures.items) at c.requires.search.walk in
    let left = w.stack.0.left.0 in
    let few = c.requires.trials.few in
    omega arith

pub put_back-requires-clause-within : goal.put_back-requires-clause-within
put_back-requires-clause-within c =
    let w = rw (pushed c.pop.new.self.items c.in-Some.ensures.items) at c.requires.search.walk in
    w.stack.3

pub index-requires : goal.index-requires
index-requires c =
    let w = rw (pushed c.pop.new.self.items c.in-Some.ensures.items) at c.requires.search.walk in
    let left = w.stack.0.left.0 in
    omega arith

pub index-requires-2 : goal.index-requires-2
index-requires-2 c =
    let w = rw (pushed c.pop.new.self.items c.in-Some.ensures.items) at c.requires.search.walk in
    let here = w.stack.3.here_next in
    let e = ap length c.put_back.ensures.next ∙ length-set c.args.self.now.not_done.next.items _ _ in
    omega arith

pub returns-clause-search : goal.returns-clause-search
returns-clause-search c = λ u.
    let t = c.args.trials.now in
    let level = c.in-Some.level in
    let nx = c.put_back.new.self.next.items in
    let one = pushed c.pop.new.self.items c.in-Some.ensures.items in
    let w = rw one at c.requires.search.walk in
    let here = w.stack.3.here_next in
    let e = ap length c.put_back.ensures.next ∙ length-set c.args.self.now.not_done.next.items _ _ in
    let inside : level.place + 1 < length nx = omega arith in
    let eo = ap as_call c.index.ensures ∙ call_read t.items.items level.place _ w.stack.0.left.0 in
    record {
      walk = rw (c.in_ok-undo.ensures, c.put_back.ensures.next, c.put_back.ensures.before) (came_back w
          (rw one at c.requires.dead_here)
          (rw c.put_back.ensures.next at (c.index-2.ensures ∙ get_or_default nx (level.place + 1) _ 0 inside))
          (rw (ap (λ (x : Call). x.returned) eo) at c.owed_before-self.ensures));
      dead = remembered_some t c.args.self.now.dead _ _ c.requires.search.dead c.in_ok-pair.ensures
          c.in_ok-remember_if_some.ensures;
    }
