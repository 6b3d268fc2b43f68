use Rattle.std.proofs.Common.{◌≡◌, arith, sym, subst}
use Rattle.publication.specs.Handles.{Holding}
use Rattle.combiner.specs.Passes.{Goes}
use Rattle.combiner.proofs.Served.{goes_nowhere, goes_on}
use Rattle.combiner.proofs.passes.serve_others.Goals as goal
use Rattle.combiner.proofs.passes.serve_others.Goals.{then-row-own+then-eq, then-row-own+else-eq, else-row-own}

pub loop-at-init : goal.loop-at-init
loop-at-init g c = (goes_nowhere c.args.pass, omega arith)

-- a pass that has gone on, and then tries one row more, has gone on
goes_tried : (start pass tried after : Holding) → Goes start pass → Goes pass tried → after ≡ tried → Goes start after
goes_tried start pass tried after before step is =
    subst (λ z. Goes start z) (sym is) (goes_on start pass tried before step)

pub loop-at-preserved : goal.loop-at-preserved
loop-at-preserved g c = let n = c.loop-at.invariant.1 in elim c.if-row-own.branch [
  | then-row-own+then-eq w ↦ (
    goes_tried c.args.pass c.loop-at.pass w.try_row-after.result.0 c.if-row-own.pass c.loop-at.invariant.0
        w.try_row-after.ensures.goes w.pass-is,
    (let i = w.count-is in omega arith),
  )
  | then-row-own+else-eq w ↦ (
    goes_tried c.args.pass c.loop-at.pass w.try_row-after.result.0 c.if-row-own.pass c.loop-at.invariant.0
        w.try_row-after.ensures.goes w.pass-is,
    (let i = w.count-is in omega arith),
  )
  | else-row-own w ↦ (
    subst (λ z. Goes c.args.pass z) (sym w.pass-is) c.loop-at.invariant.0,
    (let i = w.count-is in omega arith),
  )
]
