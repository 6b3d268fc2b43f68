-- `go_on`: one operation more leaves a search that goes on, or a whole order. The walk's stack grows by it
-- (`stepped`), and with no return owed it is an order (`over_now`). At a dead pair it is undone (`hit_any`).
use Rattle.std.proofs.Common.{length, reverse, ap, ◌∙◌, arith}
use Rattle.std.proofs.lemmas.List.{get_or_default}
use Rattle.model.specs.Objects.{empty}
use Rattle.model.specs.Orders.{Call}
use Rattle.order_search.specs.Undoing.{reversible_content}
use Rattle.order_search.specs.declared.kept.KeptContent.TheVariants.{Whole}
use Rattle.order_search.specs.declared.pairs.Pair.{Pair}
use Rattle.order_search.specs.Arranged.{as_call, call_at}
use Rattle.order_search.specs.Searching.{befores}
use Rattle.order_search.proofs.Positions.{position}
use Rattle.order_search.proofs.Generations.{hit_any}
use Rattle.order_search.proofs.Links.{within_before, within_after, next_again, before_again}
use Rattle.order_search.proofs.Stack.{walk_linked, walk_left, taken_out, stepped, owed_less, window_moved, placed}
use Rattle.order_search.proofs.Steps.{pushed, call_read, over_now}
use Rattle.order_search.proofs.walk.State.go_on.Goals as goal

pub pending_after-pending-requires : goal.pending_after-pending-requires
pending_after-pending-requires c =
    let long = (walk_linked c.requires.search.walk).long_next in
    let inside = c.requires.at in
    omega arith

pub take_out-requires : goal.take_out-requires
take_out-requires c =
    let w = c.requires.search.walk in
    within_before (walk_linked w) (walk_left w c.requires.at)

pub put_back-requires-clause-within : goal.put_back-requires-clause-within
put_back-requires-clause-within c =
    let w = c.requires.search.walk in
    rw (c.take_out.ensures.next, c.take_out.ensures.before) (within_after (walk_linked w) (walk_left w c.requires.at))

pub pass-requires-clause-search : goal.pass-requires-clause-search
pass-requires-clause-search c =
    let w = c.requires.search.walk in
    let link = walk_linked w in
    let left = walk_left w c.requires.at in
    record {
      walk = rw (
        c.in_ok-undo.ensures,
        c.put_back.ensures.next,
        c.put_back.ensures.before,
        c.take_out.ensures.next,
        c.take_out.ensures.before,
        next_again link left,
        before_again link left,
      ) w;
      dead = c.requires.search.dead;
    }

pub pass-requires-clause-dead_at : goal.pass-requires-clause-dead_at
pass-requires-clause-dead_at c =
    let a = c.args.self.now in
    let d : Pair = record { hash = 0; high = 0; not_done = a.not_done.next; content = Whole a.object } in
    let high = c.max-high.ensures in
    rw c.in_ok-undo.ensures (hit_any c.args.trials.now c.requires.search.walk a.dead c.requires.at c.requires.does
    c.take_out.ensures.next (omega arith) (omega arith) c.requires.search.dead (c.holds.ensures c.if-holds.true) d)

pub returns-then-self-eq0-clause-over : goal.returns-then-self-eq0-clause-over
returns-then-self-eq0-clause-over c u =
    let a = c.args.self.now in
    let w = c.requires.search.walk in
    let high = c.max-high.ensures in
    let more = pushed a.levels.items c.in_ok-push.ensures.items in
    let eo = ap as_call c.index-item.ensures ∙ call_read c.args.trials.now.items.items a.at _ c.requires.at in
    let t = c.args.trials.now in
    over_now (length t.items.items) (call_at t.items.items) (empty t.kind) c.push.new.self.items
    (befores (reverse c.push.new.self.items) (reversible_content a.object))
    (position (reversible_content a.object) c.take_out.new.self.next.items c.take_out.new.self.before.items
    c.max-high.result)
    (rw more (stepped w c.args.step.undo a.digest c.requires.at c.requires.in_time c.requires.does c.requires.agrees
    (omega arith) (omega arith) c.take_out.ensures.next c.take_out.ensures.before))
    (rw more (owed_less w c.requires.at (rw (ap (λ (x : Call). x.returned) eo) at c.owed_after-self.ensures)))
    c.if-self-eq0.true

pub least_return-least-requires-clause-linked : goal.least_return-least-requires-clause-linked
least_return-least-requires-clause-linked c =
    (_, taken_out c.requires.search.walk c.requires.at c.take_out.ensures.next c.take_out.ensures.before)

pub index-requires : goal.index-requires
index-requires c =
    let long = (taken_out c.requires.search.walk c.requires.at c.take_out.ensures.next
    c.take_out.ensures.before).long_next in
    omega arith

pub returns-clause-search : goal.returns-clause-search
returns-clause-search c u =
    let a = c.args.self.now in
    let w = c.requires.search.walk in
    let high = c.max-high.ensures in
    let eo = ap as_call c.index-item.ensures ∙ call_read c.args.trials.now.items.items a.at _ c.requires.at in
    let link = taken_out w c.requires.at c.take_out.ensures.next c.take_out.ensures.before in
    let long = link.long_next in
    record {
      walk = rw (pushed a.levels.items c.in_ok-push.ensures.items) (placed
          (stepped w c.args.step.undo a.digest c.requires.at c.requires.in_time c.requires.does c.requires.agrees
          (omega arith) (omega arith) c.take_out.ensures.next c.take_out.ensures.before)
          (c.index.ensures ∙ get_or_default c.take_out.new.self.next.items 0 _ 0 (omega arith))
          (window_moved w c.requires.at c.pending_after-pending.ensures.same c.pending_after-pending.ensures.other
          (c.least_return-least.ensures _ link))
          (owed_less w c.requires.at (rw (ap (λ (x : Call). x.returned) eo) at c.owed_after-self.ensures))
          (omega (arith, c.if-self-eq0.false)));
      dead = c.requires.search.dead;
    }
