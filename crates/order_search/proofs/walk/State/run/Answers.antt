-- `run`: the walk ends with an order, with none possible, or out of steps. Each place that is passed is dead: it is
-- invoked too late, or its operation is not possible. The measure falls at each turn.
use Rattle.std.proofs.Common.{◌<◌, length, inl, inr, ap, ◌∙◌, arith}
use Rattle.std.proofs.lemmas.List.{get_or_default}
use Rattle.order_search.specs.Arranged.{as_call}
use Rattle.order_search.proofs.Measure.{step_smaller}
use Rattle.order_search.proofs.Steps.{dead_here, dead_too_late, dead_impossible, call_read}
use Rattle.order_search.proofs.walk.State.run.Goals.{then-at-len-via-then-at-len}
use Rattle.order_search.proofs.walk.State.run.Goals.{then-at-len-via-else-at-len+then-index-self}
use Rattle.order_search.proofs.walk.State.run.Goals.{then-item-self-via-then-item-self}
use Rattle.order_search.proofs.walk.State.run.Goals.{then-item-self-via-else-item-self+then-not-is_possible}
use Rattle.order_search.proofs.walk.State.run.Goals as goal

pub come_back-requires-clause-dead_here : goal.come_back-requires-clause-dead_here
come_back-requires-clause-dead_here c =
    let s = c.loop-self.self in
    let t = c.args.trials.now in
    dead_here c.requires.trials c.loop-self.invariant.search.walk
    (elim c.then-at-len.branch [
      | then-at-len-via-then-at-len w ↦ inl (omega (arith, w.if-at-len.true))
      | then-at-len-via-else-at-len+then-index-self w ↦
          let inside : s.at < length t.floors.items =
          omega (arith, w.if-at-len.false, c.requires.trials.floors_right.long) in
          let e = w.index.ensures ∙ get_or_default t.floors.items s.at _ 0 inside in
          inr (omega (arith, w.if-index-self.true), omega (arith, w.if-index-self.true, e))
    ])

pub pass-requires-clause-dead_at : goal.pass-requires-clause-dead_at
pass-requires-clause-dead_at c =
    let s = c.loop-self.self in
    let t = c.args.trials.now in
    let here = ap as_call c.index-item.ensures ∙ call_read t.items.items s.at _ (omega (arith, c.if-at-len.false)) in
    elim c.then-item-self.branch [
      | then-item-self-via-then-item-self w ↦
          dead_too_late c.requires.trials c.loop-self.invariant.search.walk c.index-item.result.now here
          (omega (arith, w.if-item-self.true)) w.if-item-self.true
      | then-item-self-via-else-item-self+then-not-is_possible w ↦
          dead_impossible t.items.items c.index-item.result.now _ here
          (λ h. absurd (cc (w.is_possible.ensures.1 h, w.if-not-is_possible.true)))
    ]

pub loop-self-smaller : goal.loop-self-smaller
loop-self-smaller c =
    let s = c.loop-self.self in
    let t = c.args.trials.now in
    let f = c.if-steps-limit.false in
    let st = c.loop-self.invariant.steps in
    let deep = c.attempt.ensures.deep in
    step_smaller c.args.limit c.loop-self.steps (length t.items.items) (length s.levels.items)
    (length c.attempt.new.self.levels.items) s.at c.attempt.new.self.at (omega arith) deep
