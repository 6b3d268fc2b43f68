use Rattle.std.proofs.Common.{refl, ap, length, arith}
use Rattle.combiner.proofs.Served.{same_on}
use Rattle.combiner.proofs.passes.clean.Goals as goal

pub returns-then-number-ne0 : goal.returns-then-number-ne0
returns-then-number-ne0 g c = (c.args.pass.now.state.list, c.args.pass.now.state.ages, refl)

pub loop-at-init : goal.loop-at-init
loop-at-init g c =
    let long = ap length c.rows-at.ensures.rows in
    ((c.args.pass.now.state.list, c.args.pass.now.state.ages, refl), omega arith)

pub loop-at-preserved : goal.loop-at-preserved
loop-at-preserved g c = (
  same_on c.args.pass.now c.loop-at.pass c.clean_at.new.pass c.loop-at.invariant.0 c.clean_at.ensures.same,
  c.clean_at.ensures.rows,
)
