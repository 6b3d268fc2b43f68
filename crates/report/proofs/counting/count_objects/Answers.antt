use Rattle.std.proofs.Common.{arith}
use Rattle.report.proofs.Uses.{seen_next}
use Rattle.report.proofs.counting.count_objects.Goals as goal

pub loop-invoked-preserved : goal.loop-invoked-preserved
loop-invoked-preserved c =
    let l = c.loop-invoked in
    let few = c.in_ok-count.ensures.few in
    let below = l.invariant.1 in (
      seen_next c.args.kind c.args.all.now l.invoked-index _ _ _ c.loop-invoked-test.true
          (c.in_ok-count.ensures.seen _ _ l.invariant.0),
      omega (arith, few, below),
    )
